-- The octets of one file change.
--     same_filled, same_contents, same_apart     octets that are in the same blocks
--     kind_there, file_there, held_here, file_filled, in_held     what is at the path of a file, and its octets
--     written_octets    the fields that were written say which octets the file has
--     written_seen, written_store      its block is written, and the slots may be others: what is seen, and it is a store
--     file_store, file_changes         its octets are others, and then its block says so
use Rattle.std.proofs.Common.{◌≡◌, ◌≢◌, ℕ, ◌+◌, ◌<◌, true, List, [], ◌∷◌, ◌++◌, length, map, set, get_or, Some, None, refl, sym, ap, ◌∙◌, subst, inl, inr, arith}
use Rattle.std.proofs.lemmas.List.{map-set, set-append_right, get_or_append_left, length-map, length-append}
use Rattle.std.proofs.lemmas.Bool.{cases_eq}
use Rattle.std.specs.FinMap as finite
use Rattle.std.specs.Prelude.{All}
use Rattle.cfdp_paths.specs.Paths.{Path}
use Rattle.cfdp_arena.specs.Arena.{Blocks, octets_at, octets_of, free_count, with_block}
use Rattle.cfdp_arena.proofs.Chains.{live_within}
use Rattle.cfdp_actions.specs.declared.kind.Kind.{Kind}
use Rattle.cfdp_actions.specs.declared.kind.Kind.TheVariants as kind
use Rattle.cfdp_actions.specs.Filestore.{File, Filestore, Becomes, changed, node_at, is_file, blocks, blocks_of, weight}
use Rattle.cfdp_actions.specs.Store.{Store, with_changes}
use Rattle.cfdp_actions.proofs.ChangeLaws.{blocks-becomes}
use Rattle.cfdp_actions.proofs.RowLaws.{blocks_of-fits}
use Rattle.cfdp_arena.proofs.Laws.{octets_at-with_other}
use Rattle.cfdp_tree.specs.declared.runs.Run.{Run}
use Rattle.cfdp_tree.specs.declared.contents.Contents.{Contents}
use Rattle.cfdp_ways.specs.declared.way.Way.{Way}
use Rattle.cfdp_tree.specs.declared.slots.Slot.{Slot}
use Rattle.cfdp_tree.specs.code.NodeFields.{node_fields_of, node_name, kind_of_octet}
use Rattle.cfdp_tree.specs.code.Runs.{Apart, Spares, Stays, RunsStay}
use Rattle.cfdp_tree.specs.code.Ways.{HasWays, KeepsWays}
use Rattle.cfdp_tree.specs.code.Contents.{IsFilled, contents_in}
use Rattle.cfdp_tree.specs.code.Nodes.{nodes_in}
use Rattle.cfdp_tree.specs.code.Tree.{IsNode, node_fields_at, name_at, path_of_node, IsTree, SameEntries}
use Rattle.cfdp_tree.specs.code.Index.{Heads, IsIndex}
use Rattle.cfdp_tree.specs.code.Kept.{no_contents, contents_of_fields, file_of, file_in, holdings, node_with, node_of, Shows, filestore_of, store_of, IsStored}
use Rattle.cfdp_tree.specs.code.Slots.{lists_staged, IsSoundSlot, IsStore}
use Rattle.cfdp_tree.specs.code.Files.{with_contents, SameOctets}
use Rattle.cfdp_tree.proofs.OfStore.SlotCursors.{slot_stays}
use Rattle.cfdp_tree.proofs.OfRuns.WayLaws.{same_ways, ways_still}
use Rattle.cfdp_tree.proofs.OfRuns.ContentsLaws.{length-contents, none_filled, none_contents, none_sum as none_summed, stays_filled, stays_contents}
use Rattle.cfdp_tree.proofs.OfNodes.OneBlockLaws.{octets_of-with_same, octets_other}
use Rattle.cfdp_tree.proofs.OfNodes.EntryLaws.{same_paths, same_tree}
use Rattle.cfdp_tree.proofs.OfStore.AlikeLaws.{held_is, stays_then}
use Rattle.cfdp_tree.proofs.OfStore.ShowLaws.{tree_shows, shown_same, put_shows}
use Rattle.cfdp_tree.proofs.OfStore.StoredLaws.{stored_changed, stored_others, spared as run_spared}
use Rattle.cfdp_tree.proofs.OfStore.SeenLaws.{shows, seen_node, seen_blocks, held_at, slot_at_held}
use Rattle.cfdp_tree.proofs.OfStore.SlotLaws.{node_held, all_maps}
use Rattle.cfdp_tree.proofs.OfStore.FileNodeLaws.{file_kind, file_entries, file_index}
use Rattle.cfdp_tree.proofs.OfStore.FileNodeLaws as all_fields

-- octets that are in the same blocks
module _ (a b : Contents) (same : SameOctets a b) where
  same_is : 0 < b.run.count → a ≡ b
  same_is some = (λ k. record {
    run = record { first = same.first some k; last = same.last some k; count = same.count k };
    size = same.size k;
    sum = same.sum k;
  })

  module _ (arena : Blocks) (filled : IsFilled arena b) where
    none_size : b.run.count ≡ 0 → a.size ≡ 0
    none_size none = omega (arith, none, filled.blocks, blocks_of-fits b.size, same.size)

    none_sum : b.run.count ≡ 0 → a.sum ≡ 0
    none_sum none = same.sum ∙ filled.summed ∙ none_summed arena b none (sym same.size ∙ none_size none)

    pub same_filled : IsFilled arena a
    same_filled = elim (cases_eq b.run.count 0) [
      | inl none ↦ none_filled arena a (same.count ∙ none) (none_size none) (none_sum none)
      | inr some ↦ subst (IsFilled arena) (sym (same_is (omega arith))) filled
    ]

    pub same_contents : contents_in arena a ≡ contents_in arena b
    same_contents = elim (cases_eq b.run.count 0) [
      | inl none ↦ none_contents arena a (same.count ∙ none) (none_size none) ∙ sym (none_contents arena b none (sym same.size ∙ none_size none))
      | inr some ↦ ap (contents_in arena) (same_is (omega arith))
    ]

  pub same_apart : (other : Run) → Apart b.run other → Apart a.run other
  same_apart other apart some there e = (let was : 0 < b.run.count = omega (arith, some, same.count) in apart was there (e ∙ same.first was))

file_by_node : (arena : Blocks) (k : Kind) (contents : Contents) → is_file (Some (node_with arena k contents)) ≡ true → k ≡ kind.File
file_by_node arena kind.File contents file = refl
file_by_node arena kind.Directory contents file = cc

-- a file of the store
module _ (arena : Blocks) (heads : Heads) (slots : List Slot) {ways : List Way} (store : IsStore arena ways heads slots) (now : Store)
    (view : store_of arena (lists_staged slots) ≡ now)
    (b : ℕ) (p : Path) (node : IsNode (nodes_in arena) b) (way : path_of_node (nodes_in arena) b ≡ p) (file : is_file (node_at now.filestore p) ≡ true) where
  abbrev nodes : Blocks
  nodes = nodes_in arena

  abbrev staged : List Contents
  staged = lists_staged slots

  abbrev held : List Contents
  held = holdings nodes staged

  abbrev before : Contents
  before = contents_of_fields kind.File (node_fields_at nodes b)

  pub kind_there : kind_of_octet (node_fields_at nodes b).kind ≡ kind.File
  kind_there = file_by_node arena (kind_of_octet (node_fields_at nodes b).kind) (file_of (octets_of nodes b))
      (ap is_file (sym (seen_node arena heads slots store now view b p node way)) ∙ file)

  pub file_there : node_at now.filestore p ≡ Some (File (contents_in arena before))
  file_there = seen_node arena heads slots store now view b p node way ∙ ap (λ k. Some
      (node_with arena k (contents_of_fields k (node_fields_at nodes b)))) kind_there

  pub held_here : get_or held (length staged + b) no_contents ≡ before
  held_here =
      held_at arena heads slots store now view b ∙ sym (held_is (octets_at nodes b) node)
      ∙ ap (λ k. contents_of_fields k (node_fields_at nodes b)) kind_there

  pub file_filled : IsFilled arena before
  file_filled = subst (IsFilled arena) held_here (store.kept.stored.filled (length staged + b))

  pub in_held : length staged + b < length held
  in_held = omega (arith, length-append staged (map file_in nodes), length-map nodes file_in, live_within nodes b node)

  -- another file's octets
  -- its block is written
  module _ (later : Blocks) (contents : Contents) (written : List ℕ) (fields : node_fields_of written ≡ with_contents (node_fields_at nodes b) contents)
      (name : node_name written ≡ name_at nodes b) (whole : length written ≡ 128) where
    abbrev new : Blocks
    new = with_block nodes b written

    entries : SameEntries nodes new
    entries = file_entries nodes store.kept.tree b node kind_there written contents fields name whole

    tree_new : IsTree new
    tree_new = same_tree nodes new entries store.kept.tree

    pub written_octets : contents.run.count ≡ blocks_of contents.size → SameOctets (file_of written) contents
    written_octets blocks = subst (λ x. SameOctets x contents)
        (sym (ap (λ k. contents_of_fields k (node_fields_of written)) (file_kind nodes store.kept.tree b node kind_there written contents fields name whole)
        ∙ ap (contents_of_fields kind.File) fields))
        (all_fields.octets_same (node_fields_at nodes b) contents blocks)

    module _ (octets : List ℕ) (here : contents_in later (file_of written) ≡ octets)
        (stays : (c : ℕ) → IsNode nodes c → c ≢ b → node_of later (octets_of nodes c) ≡ node_of arena (octets_of nodes c)) where
      shown_written : node_of later written ≡ File octets
      shown_written = ap (λ k. node_with later k (file_of written)) (file_kind nodes store.kept.tree b node kind_there written contents fields name whole)
          ∙ ap File here

      abbrev was_shown : Shows arena nodes now.filestore.nodes
      was_shown = shows arena heads slots store now view

      path_new : (c : ℕ) → path_of_node new c ≡ path_of_node nodes c
      path_new = same_paths nodes new entries

      octets_new : octets_of new b ≡ written
      octets_new = octets_of-with_same nodes b written (live_within nodes b node)

      shows_new : Shows later new (finite.insert now.filestore.nodes p (File octets))
      shows_new =
          put_shows arena later nodes new tree_new b (entries.nodes b ∙ node) p (path_new b ∙ way) (File octets)
          (ap (node_of later) octets_new ∙ shown_written) now.filestore.nodes was_shown
          (λ c is other. sym (entries.nodes c) ∙ is)
          (λ c was other. (
            entries.nodes c ∙ was,
            path_new c,
            ap (node_of later) (octets_other nodes new b (octets_at-with_other nodes b written) c other) ∙ stays c was other,
          ))
          (λ c was apart same. apart (ap (path_of_node nodes) same ∙ way))

      -- and the slots are others
      module _ (nodes_now : nodes_in later ≡ new) (long : length later ≡ length arena) (slots_now : List Slot) (lists : List (List ℕ))
          (lists_is : map (contents_in later) (lists_staged slots_now) ≡ lists) where
        abbrev filestore_now : Filestore
        filestore_now = record { nodes = finite.insert now.filestore.nodes p (File octets); staged = lists }

        nodes_same : (filestore_of later (lists_staged slots_now)).nodes ≡ finite.insert now.filestore.nodes p (File octets)
        nodes_same = shown_same later (nodes_in later) (filestore_of later (lists_staged slots_now)).nodes (finite.insert now.filestore.nodes p (File octets))
            (tree_shows later (nodes_in later) (subst IsTree (sym nodes_now) tree_new))
            (subst (λ ns. Shows later ns (finite.insert now.filestore.nodes p (File octets))) (sym nodes_now) shows_new)

        filestore_is : filestore_of later (lists_staged slots_now) ≡ filestore_now
        filestore_is = (λ k. record { nodes = nodes_same k; staged = lists_is k })

        pub written_seen : store_of later (lists_staged slots_now) ≡ record now { filestore = filestore_now }
        written_seen =
            let memory : true ≡ now.takes_no_memory = ap (λ (s : Store). s.takes_no_memory) view in
            let capacity : length later ≡ now.capacity = long ∙ ap (λ (s : Store). s.capacity) view in
            (λ k. record { filestore = filestore_is k; capacity = capacity k; takes_no_memory = memory k })

        pub written_store : (ways_now : List Way) → length slots_now ≡ length slots → IsStored later ways_now (holdings new (lists_staged slots_now)) →
            free_count later + blocks filestore_now ≡ length later
            → All (IsSoundSlot later) slots_now → IsStore later ways_now heads slots_now
        written_store ways_now many stored counted sound = record {
          kept = record {
            some = omega (arith, long, store.kept.some);
            small = omega (arith, long, store.kept.small);
            slots = length-map slots_now (λ (slot : Slot). slot.contents) ∙ many ∙ sym (length-map slots (λ (slot : Slot). slot.contents)) ∙ store.kept.slots;
            tree = subst IsTree (sym nodes_now) tree_new;
            index = subst (λ ns. IsIndex ns heads None) (sym nodes_now) (file_index nodes store.kept.tree b node kind_there written contents fields name whole
                heads None store.kept.index);
            stored = subst (λ ns. IsStored later ways_now (holdings ns (lists_staged slots_now))) (sym nodes_now) stored;
            counted = ap (λ F. free_count later + blocks F) filestore_is ∙ counted;
          };
          sound = sound;
        }

  -- its octets are others, and then its block says so
  module _ (middle later : Blocks) (after : Contents) (written : List ℕ) (nodes_middle : nodes_in middle ≡ nodes) (long_middle : length middle ≡ length arena)
      (spares : Spares arena middle before.run after.run) (filled : IsFilled middle after) (taken : free_count middle + blocks_of after.size ≡ free_count arena
      + blocks_of before.size)
      (nodes_later : nodes_in later ≡ with_block (nodes_in middle) b written) (fields : node_fields_of written ≡ with_contents
      (node_fields_at (nodes_in middle) b) after)
      (name : node_name written ≡ name_at (nodes_in middle) b) (whole : length written ≡ 128) (runs : RunsStay middle later) (free : free_count later
      ≡ free_count middle) (long : length later ≡ length middle)
      (octets : List ℕ) (octets_is : contents_in middle after ≡ octets) where
    abbrev described : Contents
    described = file_of written

    fields_are : node_fields_of written ≡ with_contents (node_fields_at nodes b) after
    fields_are = fields ∙ ap (λ ns. with_contents (node_fields_at ns b) after) nodes_middle

    name_is : node_name written ≡ name_at nodes b
    name_is = name ∙ ap (λ ns. name_at ns b) nodes_middle

    nodes_is : nodes_in later ≡ with_block nodes b written
    nodes_is = nodes_later ∙ ap (λ ns. with_block ns b written) nodes_middle

    same : SameOctets described after
    same = written_octets later after written fields_are name_is whole filled.blocks

    filled_later : IsFilled later after
    filled_later = stays_filled middle later after (runs after.run filled.held) filled

    filled_described : IsFilled later described
    filled_described = same_filled described after same later filled_later

    here : contents_in later described ≡ octets
    here = same_contents described after same later filled_later ∙ stays_contents middle later after (runs after.run filled.held) ∙ octets_is

    spares_described : Spares arena later before.run described.run
    spares_described other is apart =
        let s = spares other is apart in
        (stays_then arena middle later other s.0 (runs other s.0.held), same_apart described after same other s.1)

    spares_held : Spares arena later (get_or held (length staged + b) no_contents).run described.run
    spares_held = subst (λ (x : Contents). Spares arena later x.run described.run) (sym held_here) spares_described

    others : (j : ℕ) → j ≢ length staged + b → contents_in later (get_or held j no_contents) ≡ contents_in arena (get_or held j no_contents)
    others = stored_others arena later held (length staged + b) in_held described store.kept.stored spares_held filled_described

    node_stays : (c : ℕ) → IsNode nodes c → c ≢ b → node_of later (octets_of nodes c) ≡ node_of arena (octets_of nodes c)
    node_stays c was other =
        let at = held_at arena heads slots store now view c in
        node_held arena later nodes c was (ap (contents_in later) (sym at)
        ∙ others (length staged + c) (λ e. other (omega (arith, e))) ∙ ap (contents_in arena) at)

    holdings_now : holdings (with_block nodes b written) staged ≡ set held (length staged + b) described
    holdings_now =
        ap (λ xs. staged ++ xs) (map-set file_in nodes b (Some written))
        ∙ sym (set-append_right staged (map file_in nodes) (length staged) (length staged + b) described refl (omega arith)
        ∙ ap (λ k. staged ++ set (map file_in nodes) k described) (omega arith))

    slot_at : (j : ℕ) → j < length staged → get_or held j no_contents ≡ get_or staged j no_contents
    slot_at j within = get_or_append_left staged (map file_in nodes) no_contents j within

    lists_are : map (contents_in later) staged ≡ now.filestore.staged
    lists_are =
        all_maps (contents_in later) (contents_in arena) staged no_contents
        (λ j within. (let at = slot_at j within in ap (contents_in later) (sym at) ∙ others j (λ e. omega (arith, within, e)) ∙ ap (contents_in arena) at))
        ∙ ap (λ (s : Store). s.filestore.staged) view

    counted_now : free_count later + blocks (changed now.filestore (Becomes p (Some (File octets)))) ≡ length later
    counted_now =
        omega (
          arith,
          blocks-becomes now.filestore p (Some (File octets)),
          ap weight file_there,
          ap blocks_of (length-contents arena before file_filled),
          ap blocks_of (sym (ap (λ (xs : List ℕ). length xs) here) ∙ length-contents later described filled_described ∙ same.size),
          taken,
          free,
          long,
          long_middle,
          seen_blocks arena heads slots store now view,
        )

    stays_sound : (j : ℕ) (d : Slot) → j < length slots → IsSoundSlot later (get_or slots j d)
    stays_sound j d within =
        let s = get_or slots j d in
        let inside : j < length staged = omega (arith, within, length-map slots (λ (slot : Slot). slot.contents)) in
        let at = slot_at_held arena heads slots store now view j d within in
        let stays = subst (λ (x : Contents). Stays arena later x.run) at
        (run_spared arena later held (length staged + b) in_held described store.kept.stored spares_held filled_described j
        (λ e. omega (arith, inside, e))).0 in
        slot_stays arena later s stays (store.sound j d within)

    -- the ways of its blocks, and of those of all others
    module _ (ways_now : List Way) (has : HasWays middle ways_now after.run) (keeps : KeepsWays arena middle ways ways_now before.run) where
      has_later : HasWays later ways_now described.run
      has_later = same_ways later ways_now described after same
          (ways_still middle later ways_now after.run long (λ k less. (runs after.run filled.held).sequence k (omega (arith, less))) has)

      keeps_later : KeepsWays arena later ways ways_now (get_or held (length staged + b) no_contents).run
      keeps_later other is apart was =
          let apart_before = subst (λ (x : Contents). Apart x.run other) held_here apart in
          let still = (spares other is apart_before).0.held in
          ways_still middle later ways_now other long (λ k less. (runs other still).sequence k (omega (arith, less))) (keeps other is apart_before was)

      pub file_store : IsStore later ways_now heads slots
      file_store = written_store later after written fields_are name_is whole octets here node_stays nodes_is (long
          ∙ long_middle) slots now.filestore.staged lists_are ways_now refl
          (subst (IsStored later ways_now) (sym holdings_now) (stored_changed arena later held (length staged
          + b) in_held described store.kept.stored spares_held filled_described ways_now has_later keeps_later))
          counted_now stays_sound

    pub file_changes : store_of later (lists_staged slots) ≡ with_changes now (Becomes p (Some (File octets)) ∷ [])
    file_changes = written_seen later after written fields_are name_is whole octets here node_stays nodes_is (long
        ∙ long_middle) slots now.filestore.staged lists_are
