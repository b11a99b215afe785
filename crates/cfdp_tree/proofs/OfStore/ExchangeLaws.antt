-- A file gets what a slot has, and the slot what the file had: no octet moves.
--     exchanged         two of what the slots and the files hold are exchanged
--     exchange_store, exchange_seen      the store then, and what it is seen as
use Rattle.std.proofs.Common.{◌≡◌, ◌≢◌, ℕ, ◌+◌, ◌<◌, true, List, [], ◌∷◌, ◌++◌, length, map, set, get_or, Some, refl, sym, ap, ◌∙◌, subst, inl, inr, arith, length-set}
use Rattle.std.proofs.lemmas.List.{map-set, set-append_left, set-append_right, get_or_append_left, get_or-set_same, get_or-set_other, length-map}
use Rattle.std.proofs.lemmas.Bool.{cases_eq}
use Rattle.std.specs.Prelude.{All}
use Rattle.cfdp_paths.specs.Paths.{Path}
use Rattle.cfdp_arena.specs.Arena.{Blocks, octets_of, free_count, with_block}
use Rattle.cfdp_actions.specs.declared.kind.Kind.TheVariants as kind
use Rattle.cfdp_actions.specs.Filestore.{File, Filestore, Becomes, Stages, changed, after, node_at, octets_in, file_octets_at, is_file, blocks, blocks_of, weight}
use Rattle.cfdp_actions.specs.Filestore as files
use Rattle.cfdp_actions.specs.Store.{Store, with_changes}
use Rattle.cfdp_actions.proofs.ChangeLaws.{blocks-becomes, blocks-stages}
use Rattle.cfdp_tree.specs.declared.contents.Contents.{Contents}
use Rattle.cfdp_ways.specs.declared.way.Way.{Way}
use Rattle.cfdp_tree.specs.declared.slots.Slot.{Slot}
use Rattle.cfdp_tree.specs.code.NodeFields.{node_fields_of, node_name}
use Rattle.cfdp_tree.specs.code.Runs.{Apart, RunsStay}
use Rattle.cfdp_tree.specs.code.Ways.{HasWays}
use Rattle.cfdp_tree.specs.code.Contents.{IsFilled, contents_in}
use Rattle.cfdp_tree.specs.code.Nodes.{nodes_in}
use Rattle.cfdp_tree.specs.code.Tree.{IsNode, node_fields_at, name_at, path_of_node}
use Rattle.cfdp_tree.specs.code.Index.{Heads}
use Rattle.cfdp_tree.specs.code.Kept.{no_contents, contents_of_fields, file_of, file_in, holdings, node_of, store_of, IsStored}
use Rattle.cfdp_tree.specs.code.Slots.{lists_staged, IsSoundSlot, IsStore}
use Rattle.cfdp_tree.specs.code.Files.{with_contents, SameOctets}
use Rattle.cfdp_tree.proofs.OfStore.SlotCursors.{slot_stays}
use Rattle.cfdp_tree.proofs.OfRuns.WayLaws.{same_ways, ways_still}
use Rattle.cfdp_tree.proofs.OfRuns.ContentsLaws.{stays_filled, stays_contents}
use Rattle.cfdp_tree.proofs.OfStore.StoredLaws.{apart_back}
use Rattle.cfdp_tree.proofs.OfStore.SeenLaws.{seen_blocks, held_at, slot_at_held, slot_there, slot_filled, slot_held, seen_staged}
use Rattle.cfdp_tree.proofs.OfStore.SlotLaws.{node_held, all_maps}
use Rattle.cfdp_tree.proofs.OfStore.FileLaws.{same_filled, same_contents, same_apart, file_there, held_here, in_held, written_octets, written_seen, written_store}

module _ (old new : Blocks) (held : List Contents) (i j : ℕ) (first : i < length held) (second : j < length held) (differ : i ≢ j) {ways : List Way}
    (stored : IsStored old ways held) (runs : RunsStay old new) (long : length new ≡ length old)
    (a : Contents) (same : SameOctets a (get_or held i no_contents)) where
  abbrev now : List Contents
  now = set (set held i (get_or held j no_contents)) j a

  at_first : get_or now i no_contents ≡ get_or held j no_contents
  at_first = get_or-set_other (set held i (get_or held j no_contents)) j i a no_contents differ
      ∙ get_or-set_same held i (get_or held j no_contents) no_contents first

  at_second : get_or now j no_contents ≡ a
  at_second = get_or-set_same (set held i (get_or held j no_contents)) j a no_contents (omega (arith, second, length-set held i (get_or held j no_contents)))

  at_else : (k : ℕ) → k ≢ i → k ≢ j → get_or now k no_contents ≡ get_or held k no_contents
  at_else k other else =
      get_or-set_other (set held i (get_or held j no_contents)) j k a no_contents else ∙ get_or-set_other held i k (get_or held j no_contents) no_contents other

  -- where they come from
  record Comes (k : ℕ) : Type 0 where
    from : ℕ
    octets : SameOctets (get_or now k no_contents) (get_or held from no_contents)
    first_is : k ≡ i → from ≡ j
    second_is : k ≡ j → from ≡ i
    else_is : k ≢ i → k ≢ j → from ≡ k

  itself : (x y : Contents) → x ≡ y → SameOctets x y
  itself x y e = subst (SameOctets x) e (record { size = refl; sum = refl; count = refl; first = (λ some. refl); last = (λ some. refl) })

  comes : (k : ℕ) → Comes k
  comes k = elim (cases_eq k i) [
    | inl e ↦ record {
      from = j;
      octets = itself (get_or now k no_contents) (get_or held j no_contents) (ap (λ m. get_or now m no_contents) e ∙ at_first);
      first_is = (λ _. refl);
      second_is = (λ f. absurd (differ (sym e ∙ f)));
      else_is = (λ other _. absurd (other e));
    }
    | inr other ↦ elim (cases_eq k j) [
      | inl e ↦ record {
        from = i;
        octets = subst (λ x. SameOctets x (get_or held i no_contents)) (sym (ap (λ m. get_or now m no_contents) e ∙ at_second)) same;
        first_is = (λ f. absurd (other f));
        second_is = (λ _. refl);
        else_is = (λ _ else. absurd (else e));
      }
      | inr else ↦ record {
        from = k;
        octets = itself (get_or now k no_contents) (get_or held k no_contents) (at_else k other else);
        first_is = (λ f. absurd (other f));
        second_is = (λ f. absurd (else f));
        else_is = (λ _ _. refl);
      }
    ]
  ]

  one_from : (k l : ℕ) (x : Comes k) (y : Comes l) → x.from ≡ y.from → k ≡ l
  one_from k l x y e = elim (cases_eq k i) [
    | inl f ↦ elim (cases_eq l i) [
      | inl g ↦ f ∙ sym g
      | inr other ↦ elim (cases_eq l j) [
        | inl h ↦ absurd (differ (sym (y.second_is h) ∙ sym e ∙ x.first_is f))
        | inr else ↦ absurd (else (sym (y.else_is other else) ∙ sym e ∙ x.first_is f))
      ]
    ]
    | inr apart ↦ elim (cases_eq k j) [
      | inl f ↦ elim (cases_eq l i) [
        | inl g ↦ absurd (differ (sym (x.second_is f) ∙ e ∙ y.first_is g))
        | inr other ↦ elim (cases_eq l j) [
          | inl h ↦ f ∙ sym h
          | inr else ↦ absurd (other (sym (y.else_is other else) ∙ sym e ∙ x.second_is f))
        ]
      ]
      | inr still ↦ elim (cases_eq l i) [
        | inl g ↦ absurd (still (sym (x.else_is apart still) ∙ e ∙ y.first_is g))
        | inr other ↦ elim (cases_eq l j) [
          | inl h ↦ absurd (apart (sym (x.else_is apart still) ∙ e ∙ y.second_is h))
          | inr else ↦ sym (x.else_is apart still) ∙ e ∙ y.else_is other else
        ]
      ]
    ]
  ]

  stays_at : (k : ℕ) → IsFilled new (get_or held k no_contents)
  stays_at k = (let x = get_or held k no_contents in stays_filled old new x (runs x.run (stored.filled k).held) (stored.filled k))

  filled_at : (k : ℕ) → IsFilled new (get_or now k no_contents)
  filled_at k = (let x = comes k in same_filled (get_or now k no_contents) (get_or held x.from no_contents) x.octets new (stays_at x.from))

  apart_at : (k l : ℕ) → k ≢ l → Apart (get_or now k no_contents).run (get_or now l no_contents).run
  apart_at k l other =
      let x = comes k in
      let y = comes l in
      let here = get_or held x.from no_contents in
      let there = get_or held y.from no_contents in
      let were = stored.apart x.from y.from (λ e. other (one_from k l x y e)) in
      let half = same_apart (get_or now l no_contents) there y.octets here.run (apart_back here.run there.run were) in
      same_apart (get_or now k no_contents) here x.octets (get_or now l no_contents).run (apart_back (get_or now l no_contents).run here.run half)

  led_at : (k : ℕ) → HasWays new ways (get_or now k no_contents).run
  led_at k =
      let x = comes k in
      let was = get_or held x.from no_contents in
      same_ways new ways (get_or now k no_contents) was x.octets
      (ways_still old new ways was.run long (λ n less. (runs was.run (stored.filled x.from).held).sequence n (omega (arith, less))) (stored.led x.from))

  pub exchanged : IsStored new ways now
  exchanged = record { filled = filled_at; apart = apart_at; led = led_at }

-- a file of the store, and a slot
module _ (arena : Blocks) (heads : Heads) (slots : List Slot) {ways : List Way} (store : IsStore arena ways heads slots) (now : Store)
    (view : store_of arena (lists_staged slots) ≡ now)
    (b : ℕ) (p : Path) (node : IsNode (nodes_in arena) b) (way : path_of_node (nodes_in arena) b ≡ p) (file : is_file (node_at now.filestore p) ≡ true)
    (i : ℕ) (small : i < 64) (slot : Slot) (is : slot ≡ get_or slots i slot) (later : Blocks) (written : List ℕ) (nodes_later : nodes_in later
    ≡ with_block (nodes_in arena) b written)
    (fields : node_fields_of written ≡ with_contents (node_fields_at (nodes_in arena) b) slot.contents) (name : node_name written ≡ name_at (nodes_in arena) b)
    (whole : length written ≡ 128)
    (runs : RunsStay arena later) (free : free_count later ≡ free_count arena) (long : length later ≡ length arena)
    (after : Slot) (after_is : after.contents ≡ contents_of_fields kind.File (node_fields_at (nodes_in arena) b)) (sound : IsSoundSlot later after) where
  abbrev nodes : Blocks
  nodes = nodes_in arena

  abbrev staged : List Contents
  staged = lists_staged slots

  abbrev held : List Contents
  held = holdings nodes staged

  abbrev before : Contents
  before = contents_of_fields kind.File (node_fields_at nodes b)

  abbrev described : Contents
  described = file_of written

  abbrev slots_now : List Slot
  slots_now = set slots i after

  there : i < length staged
  there = omega (arith, store.kept.slots, small)

  file_held : get_or held (length staged + b) no_contents ≡ before
  file_held = held_here arena heads slots store now view b p node way file

  filled : IsFilled arena slot.contents
  filled = slot_filled arena heads slots store now view i small slot is

  same : SameOctets described slot.contents
  same = written_octets arena heads slots store now view b p node way file later slot.contents written fields name whole filled.blocks

  -- no octet moves
  kept_at : (k : ℕ) → contents_in later (get_or held k no_contents) ≡ contents_in arena (get_or held k no_contents)
  kept_at k = (let x = get_or held k no_contents in stays_contents arena later x (runs x.run (store.kept.stored.filled k).held))

  here : contents_in later described ≡ files.staged_in now.filestore i
  here =
      same_contents described slot.contents same later (stays_filled arena later slot.contents (runs slot.contents.run filled.held) filled)
      ∙ stays_contents arena later slot.contents (runs slot.contents.run filled.held)
      ∙ sym (seen_staged arena heads slots store now view i small slot is)

  node_stays : (c : ℕ) → IsNode nodes c → c ≢ b → node_of later (octets_of nodes c) ≡ node_of arena (octets_of nodes c)
  node_stays c was other =
      let at = held_at arena heads slots store now view c in
      node_held arena later nodes c was (ap (contents_in later) (sym at) ∙ kept_at (length staged + c) ∙ ap (contents_in arena) at)

  staged_now : lists_staged slots_now ≡ set staged i before
  staged_now = map-set (λ (slot : Slot). slot.contents) slots i after ∙ ap (set staged i) after_is

  holdings_now : holdings (with_block nodes b written) (lists_staged slots_now)
      ≡ set (set held i (get_or held (length staged + b) no_contents)) (length staged + b) described
  holdings_now =
      let front = set staged i before in
      let back = map file_in nodes in
      let many : length front ≡ length staged = length-set staged i before in
      (λ k. staged_now k ++ map-set file_in nodes b (Some written) k)
      ∙ sym (set-append_right front back (length staged) (length staged + b) described many (omega arith)
      ∙ ap (λ k. front ++ set back k described) (omega arith))
      ∙ ap (λ xs. set xs (length staged + b) described) (sym (set-append_left staged back i before there) ∙ ap (set held i) (sym file_held))

  stored_now : IsStored later ways (holdings (with_block nodes b written) (lists_staged slots_now))
  stored_now =
      let within = in_held arena heads slots store now view b p node way file in
      subst (IsStored later ways) (sym holdings_now)
      (exchanged arena later held i (length staged + b) (omega (arith, within, there)) within (λ e. omega (arith, there, e)) store.kept.stored runs long
      described
      (subst (SameOctets described) (sym (slot_held arena heads slots store now view i small slot is)) same))

  file_octets : file_octets_at now.filestore p ≡ contents_in arena before
  file_octets = ap octets_in (file_there arena heads slots store now view b p node way file)

  before_stays : contents_in later before ≡ contents_in arena before
  before_stays = ap (contents_in later) (sym file_held) ∙ kept_at (length staged + b) ∙ ap (contents_in arena) file_held

  lists_are : map (contents_in later) (lists_staged slots_now) ≡ set now.filestore.staged i (file_octets_at now.filestore p)
  lists_are =
      let same_lists = all_maps (contents_in later) (contents_in arena) staged no_contents
      (λ j within. (let at = get_or_append_left staged (map file_in nodes) no_contents j within in ap (contents_in later) (sym at) ∙ kept_at j
      ∙ ap (contents_in arena) at)) in
      ap (map (contents_in later)) staged_now ∙ map-set (contents_in later) staged i before
      ∙ (λ k. set ((same_lists ∙ ap (λ (s : Store). s.filestore.staged) view) k) i ((before_stays ∙ sym file_octets) k))

  abbrev changed_slot : Filestore
  changed_slot = changed now.filestore (Stages i (file_octets_at now.filestore p))

  counted_now : free_count later + blocks (changed changed_slot (Becomes p (Some (File (files.staged_in now.filestore i))))) ≡ length later
  counted_now =
      let lists = length-map staged (contents_in arena) in
      let within : i < length now.filestore.staged = omega (arith, there, lists, ap (λ (s : Store). length s.filestore.staged) view) in
      omega (
        arith,
        blocks-stages now.filestore i (file_octets_at now.filestore p) within,
        blocks-becomes changed_slot p (Some (File (files.staged_in now.filestore i))),
        ap weight (file_there arena heads slots store now view b p node way file),
        ap (λ (xs : List ℕ). blocks_of (length xs)) file_octets,
        free,
        long,
        seen_blocks arena heads slots store now view,
      )

  there_slot : i < length slots
  there_slot = slot_there arena heads slots store now view i small

  stays_sound : (j : ℕ) (d : Slot) → j < length slots → IsSoundSlot later (get_or slots j d)
  stays_sound j d within =
      let s = get_or slots j d in
      let at = slot_at_held arena heads slots store now view j d within in
      let was_filled = subst (IsFilled arena) at (store.kept.stored.filled j) in
      let stays = runs s.contents.run was_filled.held in
      slot_stays arena later s stays (store.sound j d within)

  sound_now : All (IsSoundSlot later) slots_now
  sound_now j d within = elim (cases_eq j i) [
    | inl e ↦ subst (IsSoundSlot later) (sym (ap (λ k. get_or slots_now k d) e ∙ get_or-set_same slots i after d there_slot)) sound
    | inr other ↦ subst (IsSoundSlot later) (sym (get_or-set_other slots i j after d other)) (stays_sound j d (omega (arith, within, length-set slots i after)))
  ]

  pub exchange_store : IsStore later ways heads slots_now
  exchange_store = written_store arena heads slots store now view b p node way file later slot.contents written fields name whole
      (files.staged_in now.filestore i) here node_stays nodes_later long
      slots_now (set now.filestore.staged i (file_octets_at now.filestore p)) lists_are ways (length-set slots i after) stored_now counted_now sound_now

  pub exchange_seen : store_of later (lists_staged slots_now) ≡ with_changes now
      (Stages i (file_octets_at now.filestore p) ∷ Becomes p (Some (File (files.staged_in now.filestore i))) ∷ [])
  exchange_seen = written_seen arena heads slots store now view b p node way file later slot.contents written fields name whole
      (files.staged_in now.filestore i) here node_stays nodes_later long
      slots_now (set now.filestore.staged i (file_octets_at now.filestore p)) lists_are
