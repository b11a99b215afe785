-- What is at a path is removed, below which nothing exists.
--     home_none                             no node is in its node
--     seen_found                            where something is at a path its node is found
--     held_filled, held_by_node, held_small, weight_is     what the node holds
--     node_name                             its name is the path's last one
--     tree_one, index_one, entry_one        it is taken out of the list of its directory
--     drop_view, drop_store                 the store once it is given back
use Rattle.std.proofs.Common.{◌≡◌, ◌≢◌, ℕ, ◌+◌, ◌-◌, ◌≤◌, true, false, not, List, [], ◌∷◌, ◌++◌, length, length-append, map, get_or, Option, Some, None, refl, sym, ap, ◌∙◌, subst, inl, inr, arith}
use Rattle.std.proofs.lemmas.List.{get_or-set_same, get_or-set_other, get_or-append_right, get_or_append_left, get_or_past}
use Rattle.std.proofs.lemmas.Bool.{both_ways, cases_eq, cases_lt}
use Rattle.std.specs.FinMap as finite
use Rattle.std.specs.Prelude.{IsSome, IfNone}
use Rattle.cfdp_paths.specs.Paths.{Name, Path, path_cmp}
use Rattle.cfdp_arena.specs.Arena.{Blocks, octets_at, octets_of, without_block, free_count}
use Rattle.cfdp_arena.proofs.Chains.{live_within, no_live}
use Rattle.cfdp_actions.specs.declared.kind.Kind.{Kind}
use Rattle.cfdp_actions.specs.declared.kind.Kind.TheVariants as kind
use Rattle.cfdp_actions.specs.Filestore.{Node, Filestore, Becomes, node_at, weight, blocks, blocks_of, is_directory, has_entries}
use Rattle.cfdp_actions.specs.Filestore as files
use Rattle.cfdp_actions.specs.Store.{Store, with_changes, is_file_kind}
use Rattle.cfdp_actions.proofs.ChangeLaws.{blocks-becomes}
use Rattle.cfdp_actions.proofs.Growth.{blocks_of-zero}
use Rattle.cfdp_tree.specs.declared.contents.Contents.{Contents}
use Rattle.cfdp_ways.specs.declared.way.Way.{Way}
use Rattle.cfdp_tree.specs.declared.slots.Slot.{Slot}
use Rattle.cfdp_tree.specs.code.NodeFields.{NodeFields, node_fields_of, kind_of_octet}
use Rattle.cfdp_tree.specs.code.Runs.{Apart, Stays, RunsStay, Spares, nth}
use Rattle.cfdp_tree.specs.code.Contents.{IsFilled, contents_in}
use Rattle.cfdp_tree.specs.code.Nodes.{nodes_in}
use Rattle.cfdp_tree.specs.code.Tree.{IsNode, name_at, home, path_of_node, IsEntry, IsTree, Relinked}
use Rattle.cfdp_tree.specs.code.Directories.{path_at}
use Rattle.cfdp_tree.specs.code.Index.{Heads, IsIndex}
use Rattle.cfdp_tree.specs.code.Kept.{no_contents, contents_of_fields, file_of, file_in, holdings, node_with, node_of, Shows, store_of}
use Rattle.cfdp_tree.specs.code.Slots.{lists_staged, IsStore}
use Rattle.cfdp_tree.proofs.OfRuns.ContentsLaws.{length-contents, none_filled, stays_contents}
use Rattle.cfdp_tree.proofs.OfStore.SlotLaws.{node_held}
use Rattle.cfdp_tree.proofs.OfStore.SeenLaws.{shows, seen_none, file_small, seen_node, seen_blocks, held_at, node_is_directory}
use Rattle.cfdp_tree.proofs.OfNodes.EntryLaws.{same_paths, same_tree}
use Rattle.cfdp_tree.proofs.OfNodes.ClimbLaws.{path_by_home}
use Rattle.cfdp_tree.proofs.OfNodes.BelowLaws.{entry_some}
use Rattle.cfdp_tree.proofs.OfNodes.RemoveLaws.{removed_tree, removed_shows}
use Rattle.cfdp_tree.proofs.OfIndex.OutLaws.{index_deleted}
use Rattle.cfdp_tree.proofs.OfStore.AlikeLaws.{Alike, alike_relinked, alike_node, alike_shows, held_is, stays_then}
use Rattle.cfdp_tree.proofs.OfStore.ChangedLaws.{IsLeft, nodes_seen, nodes_store}

node_weight : (arena : Blocks) (k : Kind) (fields : NodeFields) → length (contents_in arena (contents_of_fields k fields)) ≡ (contents_of_fields k fields).size
    → weight (Some (node_with arena k (contents_of_fields k fields))) ≡ 1 + blocks_of (contents_of_fields k fields).size
node_weight arena kind.File fields long = ap (λ n. 1 + blocks_of n) long
node_weight arena kind.Directory fields long = ap (λ n. 1 + n) (sym blocks_of-zero)

-- the last name of a path
last_is : (p : Path) (n : Name) → get_or (p ++ n ∷ []) (length p) [] ≡ n
last_is p n =
    let none : length p - length p ≡ 0 = omega arith in
    get_or-append_right p (n ∷ []) (length p) (length p) [] refl (omega arith) ∙ ap (λ (k : ℕ). get_or (n ∷ []) k []) none

file_octets : (arena : Blocks) (k : Kind) (fields : NodeFields) → k ≡ kind.File
    → (files.octets_in (Some (node_with arena k (contents_of_fields k fields))) ≡ contents_in arena (contents_of_fields k fields))
    × ((contents_of_fields k fields).size ≡ fields.size)
file_octets arena kind.File fields file = (refl, refl)
file_octets arena kind.Directory fields file = cc

module _ (arena : Blocks) (heads : Heads) (slots : List Slot) {ways : List Way} (store : IsStore arena ways heads slots) (now : Store)
    (view : store_of arena (lists_staged slots) ≡ now) where
  pub seen_found : (p : Path) (found : Option ℕ) → IfNone found ((b : ℕ) → IsNode (nodes_in arena) b → path_of_node (nodes_in arena) b ≡ p → ⊥) →
      IsSome (node_at now.filestore p) → IsSome found
  seen_found p None none some = absurd (no_live _ (seen_none arena heads slots store now view p none) some)
  seen_found p (Some b) none some = refl

module _ (arena : Blocks) (heads : Heads) (slots : List Slot) {ways : List Way} (store : IsStore arena ways heads slots) (now : Store)
    (view : store_of arena (lists_staged slots) ≡ now)
    (path : Path) (b : ℕ) (node : IsNode (nodes_in arena) b) (way : path_of_node (nodes_in arena) b ≡ path) where
  abbrev nodes : Blocks
  nodes = nodes_in arena

  abbrev staged : List Contents
  staged = lists_staged slots

  abbrev held : Contents
  held = file_in (octets_at nodes b)

  seen : Shows arena nodes now.filestore.nodes
  seen = shows arena heads slots store now view

  at : node_at now.filestore path ≡ Some (node_of arena (octets_of nodes b))
  at = seen_node arena heads slots store now view b path node way

  pub home_none : (is_directory (node_at now.filestore path) ≡ true → has_entries now.filestore path ≡ false) → (c : ℕ) → IsNode nodes c → home nodes c
      ≡ Some b → ⊥
  home_none childless c inside there =
      let above = store.kept.tree.homes c b inside there in
      let k = kind_of_octet (node_fields_of (octets_of nodes b)).kind in
      let directory = ap is_directory at ∙ node_is_directory arena k (file_of (octets_of nodes b)) ∙ ap (λ x. not (is_file_kind x)) above.directory in
      both_ways _ (childless directory) (entry_some nodes store.kept.tree arena now.filestore seen b path node way c inside there)

  held_there : get_or (holdings nodes staged) (length staged + b) no_contents ≡ held
  held_there = held_at arena heads slots store now view b

  pub held_filled : IsFilled arena held
  held_filled = subst (IsFilled arena) held_there (store.kept.stored.filled (length staged + b))

  pub held_by_node : (block : List ℕ) → block ≡ octets_of nodes b → file_of block ≡ held
  held_by_node block same = ap file_of same ∙ held_is (octets_at nodes b) node

  pub held_small : (block : List ℕ) → block ≡ octets_of nodes b → kind_of_octet (node_fields_of block).kind ≡ kind.File → (node_fields_of block).size ≤ 7864320
  held_small block same file =
      let here = octets_of nodes b in
      let described = file_octets arena (kind_of_octet (node_fields_of here).kind) (node_fields_of here)
      (sym (ap (λ o. kind_of_octet (node_fields_of o).kind) same) ∙ file) in
      let long = length-contents arena (file_of here) (subst (IsFilled arena) (sym (held_is (octets_at nodes b) node)) held_filled) in
      let octets = ap files.octets_in at ∙ described.0 in
      omega (
        arith,
        file_small arena heads slots store now view path,
        ap (λ (xs : List ℕ). length xs) octets,
        long,
        described.1,
        ap
            (λ o. (node_fields_of o).size) same,
      )

  pub weight_is : weight (node_at now.filestore path) ≡ 1 + blocks_of held.size
  weight_is =
      let block = octets_of nodes b in
      let here = held_is (octets_at nodes b) node in
      let long = length-contents arena (file_of block) (subst (IsFilled arena) (sym here) held_filled) in
      ap weight at ∙ node_weight arena (kind_of_octet (node_fields_of block).kind) (node_fields_of block) long
      ∙ ap (λ (x : Contents). 1 + blocks_of x.size) here

  pub node_name : name_at nodes b ≡ get_or path (length path - 1) []
  node_name =
      let above = path_at nodes (home nodes b) in
      let whole : above ++ name_at nodes b ∷ [] ≡ path = sym (path_by_home nodes store.kept.tree b node) ∙ way in
      let short : length path - 1 ≡ length above = omega (arith, ap length (sym whole), length-append above (name_at nodes b ∷ [])) in
      sym (ap (λ n. get_or path n []) short ∙ ap (λ p. get_or p (length above) []) (sym whole) ∙ last_is above (name_at nodes b))

  -- it is taken out of the index
  module _ (one : Blocks) (one_is : nodes_in one ≡ nodes) where
    pub tree_one : IsTree (nodes_in one)
    tree_one = subst IsTree (sym one_is) store.kept.tree

    pub index_one : IsIndex (nodes_in one) heads None
    index_one = subst (λ ns. IsIndex ns heads None) (sym one_is) store.kept.index

    pub entry_one : (directory : Option ℕ) (name : Name) → directory ≡ home nodes b → name ≡ get_or path (length path - 1) [] →
        IsEntry (nodes_in one) directory name b
    entry_one directory name there named = record {
      node = subst (λ ns. IsNode ns b) (sym one_is) node;
      there = ap (λ ns. home ns b) one_is ∙ sym there;
      named = ap (λ ns. name_at ns b) one_is ∙ node_name ∙ sym named;
    }

    module _ (two : Blocks) (links : Relinked (nodes_in one) (nodes_in two)) where
      pub alike_two : Alike nodes (nodes_in two)
      alike_two = subst (λ ns. Alike ns (nodes_in two)) one_is (alike_relinked (nodes_in one) (nodes_in two) links)

      pub node_two : IsNode (nodes_in two) b
      node_two = alike_two.entries.nodes b ∙ node

      module _ (childless : is_directory (node_at now.filestore path) ≡ true → has_entries now.filestore path ≡ false) (later : Blocks)
          (later_is : nodes_in later ≡ without_block (nodes_in two) b)
          (heads_now : Heads) (index_two : IsIndex (nodes_in two) heads_now (Some b))
          (spares : Spares arena one held.run held.run) (runs : RunsStay one later) (long : length later ≡ length arena)
          (freed : free_count later ≡ free_count arena + blocks_of held.size + 1) where
        abbrev before : Blocks
        before = nodes_in two

        tree_two : IsTree before
        tree_two = same_tree nodes before alike_two.entries store.kept.tree

        none_two : (c : ℕ) → IsNode before c → home before c ≡ Some b → ⊥
        none_two c inside there = home_none childless c (alike_node nodes before alike_two c inside) (sym (alike_two.entries.homes c) ∙ there)

        tree_later : IsTree (nodes_in later)
        tree_later = subst IsTree (sym later_is) (removed_tree before b node_two tree_two none_two)

        index_later : IsIndex (nodes_in later) heads_now None
        index_later = subst (λ ns. IsIndex ns heads_now None) (sym later_is) (index_deleted before heads_now b node_two index_two)

        -- what is apart from the run that goes stays
        spared : (i : ℕ) → i ≢ length staged + b → Stays arena later (get_or (holdings nodes staged) i no_contents).run
        spared i other =
            let x = get_or (holdings nodes staged) i no_contents in
            let apart = subst (λ (y : Contents). Apart y.run x.run) held_there (store.kept.stored.apart (length staged + b) i (λ e. other (sym e))) in
            (let stays = (spares x.run (store.kept.stored.filled i).held apart).0 in stays_then arena one later x.run stays (runs x.run stays.held))

        file_stays : (c : ℕ) → c ≢ b → Stays arena later (file_in (octets_at nodes c)).run
        file_stays c other = subst (λ (x : Contents). Stays arena later x.run) (held_at arena heads slots store now view c)
            (spared (length staged + c) (λ e. other (omega arith)))

        list_stays : (j : ℕ) → Stays arena later (get_or staged j no_contents).run
        list_stays j = elim (cases_lt j (length staged)) [
          | inl less ↦ subst (λ (x : Contents). Stays arena later x.run) (get_or_append_left staged (map file_in nodes) no_contents j less)
              (spared j (λ e. omega arith))
          | inr past ↦ subst (λ (x : Contents). Stays arena later x.run) (sym (get_or_past staged j no_contents past)) (none_stays later)
        ]
          where
            none_stays : (new : Blocks) → Stays arena new no_contents.run
            none_stays new = record { held = (none_filled new no_contents refl refl refl).held; octets = refl; sequence = (λ k within. zero_nth k within) }
              where
                zero_nth : (k : ℕ) → k ≤ 0 → nth new 0 k ≡ nth arena 0 k
                zero_nth k within =
                    let none : k ≡ 0 = omega (arith, within) in
                    ap (λ (n : ℕ). nth new 0 n) none ∙ sym (ap (λ (n : ℕ). nth arena 0 n) none)

        left_at : (c : ℕ) → IsLeft arena later (file_in (octets_at nodes c)) (file_in (octets_at (nodes_in later) c))
        left_at c = elim (cases_eq c b) [
          | inl e ↦ inl (ap (λ x. file_in (octets_at (nodes_in later) x)) e ∙ ap (λ ns. file_in (octets_at ns b)) later_is
              ∙ ap file_in (get_or-set_same before b None None (live_within before b node_two)))
          | inr other ↦ inr (
            ap (λ ns. file_in (octets_at ns c)) later_is ∙ ap file_in (get_or-set_other before b c None None other) ∙ alike_two.files c,
            file_stays c other,
          )
        ]

        node_kept : (c : ℕ) → IsNode before c → c ≢ b → node_of later (octets_of before c) ≡ node_of arena (octets_of before c)
        node_kept c inside other =
            node_held arena later before c inside (stays_contents arena later (file_in (octets_at before c))
            (subst (λ (x : Contents). Stays arena later x.run) (sym (alike_two.files c)) (file_stays c other)))

        abbrev F : finite.FinMap path_cmp Node
        F = finite.remove now.filestore.nodes path

        shows_later : Shows later (nodes_in later) F
        shows_later =
            subst (λ ns. Shows later ns F) (sym later_is)
            (subst (λ p. Shows later (without_block before b) (finite.remove now.filestore.nodes p)) (same_paths nodes before alike_two.entries b ∙ way)
            (removed_shows before b node_two tree_two none_two arena later now.filestore.nodes
            (alike_shows nodes before alike_two arena now.filestore.nodes seen) node_kept))

        pub drop_view : store_of later staged ≡ with_changes now (Becomes path None ∷ [])
        drop_view =
            nodes_seen arena later heads heads_now slots store long list_stays left_at F shows_later tree_later index_later
            ∙ (λ i. record (view i) { filestore = record { nodes = F; staged = (view i).filestore.staged } })

        seen_is : record { nodes = F; staged = (store_of arena staged).filestore.staged } ≡ files.changed now.filestore (Becomes path None)
        seen_is = (λ i. record { nodes = F; staged = (view i).filestore.staged })

        pub drop_store : IsStore later ways heads_now slots
        drop_store =
            nodes_store arena later heads heads_now slots store long list_stays left_at F shows_later tree_later index_later
            (omega (arith, ap blocks seen_is, blocks-becomes now.filestore path None, weight_is, freed, long, seen_blocks arena heads slots store now view))
