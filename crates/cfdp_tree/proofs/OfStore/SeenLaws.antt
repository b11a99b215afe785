-- What a store that is kept in an arena is seen as.
--     shows                         its nodes are those of the map from paths
--     seen_node, seen_block, seen_none, seen_there       what is at a path is what is at its node
--     seen_blocks, few_blocks, file_small, staged_small    the blocks in use, and the octets of a file and of a staged list
--     seen_file, file_ways          a file's octets are in its contents, and the ways of their blocks lead back
--     held_at, slot_held, slot_at_held   what a node holds, and what a slot does
--     seen_staged, slot_ways        so do those that are staged
--     seen_parent                   the parent of a path is the beginning of it
--     node_kind, node_is_directory  a node by its kind
use Rattle.std.proofs.Common.{◌≡◌, ℕ, zero, suc, ◌+◌, ◌-◌, ◌<◌, ◌≤◌, true, not, ◌&&◌, List, [], ◌∷◌, length, map, take, get_or, Option, Some, None, refl, sym, ap, ◌∙◌, subst, arith}
use Rattle.std.proofs.Math.ListN.{get_or-map}
use Rattle.std.proofs.lemmas.List.{get_or-append_right, get_or_append_left, get_or_default, length-map, length-take-le}
use Rattle.std.specs.FinMap as finite
use Rattle.std.specs.FinMap.{get-entries}
use Rattle.std.specs.Prelude.{IfNone, IsSome}
use Rattle.cfdp_paths.specs.Paths.{Path, parent}
use Rattle.cfdp_paths.proofs.Below.{parent-take}
use Rattle.cfdp_arena.specs.Arena.{Blocks, octets_at, octets_of, free_count}
use Rattle.cfdp_actions.specs.declared.kind.Kind.{Kind}
use Rattle.cfdp_actions.specs.declared.kind.Kind.TheVariants as kind
use Rattle.cfdp_actions.specs.Filestore.{Node, Filestore, node_at, octets_in, weight, weights, blocks, blocks_of, is_file, is_directory, is_good, parent_is_good}
use Rattle.cfdp_actions.specs.Filestore as files
use Rattle.cfdp_actions.specs.Store.{Store, free_blocks, kind_of, is_file_kind}
use Rattle.cfdp_actions.proofs.StoreLaws.{weight-found, octets-weight, lists-each, nonempty}
use Rattle.cfdp_actions.proofs.BlocksLaws.{blocks_of-bound}
use Rattle.cfdp_tree.specs.declared.contents.Contents.{Contents}
use Rattle.cfdp_ways.specs.declared.way.Way.{Way}
use Rattle.cfdp_tree.specs.declared.slots.Slot.{Slot}
use Rattle.cfdp_tree.specs.code.NodeFields.{NodeFields, node_fields_of, kind_of_octet}
use Rattle.cfdp_tree.specs.code.Contents.{IsFilled, contents_in}
use Rattle.cfdp_tree.specs.code.Nodes.{nodes_in}
use Rattle.cfdp_tree.specs.code.Ways.{HasWays}
use Rattle.cfdp_tree.specs.code.Tree.{IsNode, path_of_node}
use Rattle.cfdp_tree.specs.code.Index.{Heads}
use Rattle.cfdp_tree.specs.code.Kept.{no_contents, contents_of_fields, file_in, holdings, node_with, node_of, Shows, store_of}
use Rattle.cfdp_tree.specs.code.Slots.{lists_staged, IsStore}
use Rattle.cfdp_tree.proofs.OfRuns.ContentsLaws.{length-contents}
use Rattle.cfdp_tree.proofs.OfNodes.TreeLaws.{node_entry, node_octets}
use Rattle.cfdp_tree.proofs.OfStore.ShowLaws.{tree_shows}

pub node_kind : (arena : Blocks) (k : Kind) (contents : Contents) → kind_of (node_with arena k contents) ≡ k
node_kind arena kind.File contents = refl
node_kind arena kind.Directory contents = refl

pub node_is_directory : (arena : Blocks) (k : Kind) (contents : Contents) → is_directory (Some (node_with arena k contents)) ≡ not (is_file_kind k)
node_is_directory arena kind.File contents = refl
node_is_directory arena kind.Directory contents = refl

-- the contents of a file
pub node_is_file : (arena : Blocks) (k : Kind) (fields : NodeFields) → is_file (Some (node_with arena k (contents_of_fields k fields))) ≡ true
    → (octets_in (Some (node_with arena k (contents_of_fields k fields))) ≡ contents_in arena (contents_of_fields kind.File fields))
    × (contents_of_fields k fields ≡ contents_of_fields kind.File fields)
node_is_file arena kind.File fields file = (refl, refl)
node_is_file arena kind.Directory fields file = cc

pub mapped_at : {A B : Type 0} (f : A → B) (xs : List A) (i : ℕ) (x : A) (d : B) → i < length xs → x ≡ get_or xs i x → get_or (map f xs) i d ≡ f x
mapped_at f [] i x d within e = absurd (omega arith)
mapped_at f (y ∷ xs) zero x d within e = ap f (sym e)
mapped_at f (y ∷ xs) (suc i) x d within e = mapped_at f xs i x d (omega arith) e

good_at : (F : Filestore) (q : Path) → 1 ≤ length q → is_good F q ≡ is_directory (node_at F q)
good_at F [] some = absurd (omega arith)
good_at F (n ∷ q) some = refl

pub seen_parent : (F : Filestore) (p : Path) (depth : ℕ) → length p ≡ depth + 1 → 1 ≤ depth → parent_is_good F p ≡ is_directory (node_at F (take depth p))
seen_parent F p depth long some =
    let above : parent p ≡ take depth p = parent-take p ∙ ap (λ n. take n p) (omega (arith, long)) in
    ap (λ root. not root && is_good F (parent p)) (nonempty p (omega (arith, long)))
    ∙ ap (is_good F) above
    ∙ good_at F (take depth p) (omega (arith, long, length-take-le depth p (omega (arith, long))))

module _ (arena : Blocks) (heads : Heads) (slots : List Slot) {ways : List Way} (store : IsStore arena ways heads slots) (now : Store)
    (view : store_of arena (lists_staged slots) ≡ now) where
  pub shows : Shows arena (nodes_in arena) now.filestore.nodes
  shows = subst (λ (s : Store). Shows arena (nodes_in arena) s.filestore.nodes) view (tree_shows arena (nodes_in arena) store.kept.tree)

  pub seen_node : (b : ℕ) (p : Path) → IsNode (nodes_in arena) b → path_of_node (nodes_in arena) b ≡ p → node_at now.filestore p
      ≡ Some (node_of arena (octets_of (nodes_in arena) b))
  seen_node b p node e = ap (finite.get now.filestore.nodes) (sym e) ∙ shows.each b node

  -- by its block
  pub seen_block : (b : ℕ) (p : Path) (block : List ℕ) → IsNode (nodes_in arena) b → path_of_node (nodes_in arena) b ≡ p → octets_at arena b ≡ Some block
      → node_at now.filestore p ≡ Some (node_of arena block)
  seen_block b p block node e is = seen_node b p node e ∙ ap (λ o. Some (node_of arena o)) (sym (node_octets arena b node block is))

  pub seen_none : (p : Path) → ((b : ℕ) → IsNode (nodes_in arena) b → path_of_node (nodes_in arena) b ≡ p → ⊥) → node_at now.filestore p ≡ None
  seen_none p none = by_case (node_at now.filestore p) refl
    where
      by_case : (o : Option Node) → node_at now.filestore p ≡ o → node_at now.filestore p ≡ None
      by_case None e = e
      by_case (Some node) e = (let there = shows.only p node e in absurd (none there.0 there.1 there.2))

  pub seen_there : (p : Path) (found : Option ℕ) → IfNone found ((b : ℕ) → IsNode (nodes_in arena) b → path_of_node (nodes_in arena) b ≡ p → ⊥) →
      is_file (node_at now.filestore p) ≡ true → IsSome found
  seen_there p None none file = absurd (no_file (node_at now.filestore p) (seen_none p none) file)
    where
      no_file : (o : Option Node) → o ≡ None → is_file o ≡ true → ⊥
      no_file o absent file = cc
  seen_there p (Some b) none file = refl

  pub seen_capacity : now.capacity ≡ length arena
  seen_capacity = sym (ap (λ (s : Store). s.capacity) view)

  pub seen_blocks : free_count arena + blocks now.filestore ≡ length arena
  seen_blocks = ap (λ (s : Store). free_count arena + blocks s.filestore) (sym view) ∙ store.kept.counted

  pub seen_free : free_blocks now ≡ free_count arena
  seen_free = omega (arith, seen_capacity, seen_blocks)

  pub few_blocks : blocks now.filestore ≤ 65536
  few_blocks = omega (arith, seen_blocks, store.kept.small)

  weighed : (p : Path) → weight (node_at now.filestore p) ≤ blocks now.filestore
  unfolding blocks
  weighed p = omega (arith, weight-found (finite.entries now.filestore.nodes) p, ap weight (get-entries now.filestore.nodes p))

  pub file_small : (p : Path) → length (files.file_octets_at now.filestore p) ≤ 7864320
  file_small p = blocks_of-bound (length (files.file_octets_at now.filestore p)) (omega (arith, octets-weight (node_at now.filestore p), weighed p, few_blocks))

  pub staged_small : (i : ℕ) → length (files.staged_in now.filestore i) ≤ 7864320
  unfolding blocks
  staged_small i = blocks_of-bound (length (files.staged_in now.filestore i)) (omega (arith, lists-each now.filestore.staged i, few_blocks))

  -- what a node holds
  pub held_at : (b : ℕ) → get_or (holdings (nodes_in arena) (lists_staged slots)) (length (lists_staged slots) + b) no_contents
      ≡ file_in (octets_at (nodes_in arena) b)
  held_at b =
      get_or-append_right (lists_staged slots) (map file_in (nodes_in arena)) (length (lists_staged slots)) (length (lists_staged slots) + b) no_contents refl
      (omega arith)
      ∙ ap (λ k. get_or (map file_in (nodes_in arena)) k no_contents) (omega arith)
      ∙ get_or-map file_in (nodes_in arena) b None

  pub seen_file : (b : ℕ) (p : Path) (block : List ℕ) → IsNode (nodes_in arena) b → path_of_node (nodes_in arena) b ≡ p → octets_at arena b ≡ Some block →
      is_file (node_at now.filestore p) ≡ true
      → (files.file_octets_at now.filestore p ≡ contents_in arena (contents_of_fields kind.File (node_fields_of block))) × IsFilled arena
      (contents_of_fields kind.File (node_fields_of block))
  seen_file b p block node e is file =
      let at = seen_block b p block node e is in
      let described = node_is_file arena (kind_of_octet (node_fields_of block).kind) (node_fields_of block) (sym (ap is_file at) ∙ file) in
      let here : octets_at (nodes_in arena) b ≡ Some block = node_entry arena b node ∙ is in (
        ap octets_in at ∙ described.0,
        subst (IsFilled arena) (held_at b ∙ ap file_in here ∙ described.1)
            (store.kept.stored.filled (length (lists_staged slots) + b)),
      )

  -- the ways of its blocks
  pub file_ways : (b : ℕ) (p : Path) (block : List ℕ) → IsNode (nodes_in arena) b → path_of_node (nodes_in arena) b ≡ p → octets_at arena b ≡ Some block →
      is_file (node_at now.filestore p) ≡ true
      → HasWays arena ways (contents_of_fields kind.File (node_fields_of block)).run
  file_ways b p block node e is file =
      let at = seen_block b p block node e is in
      let described = node_is_file arena (kind_of_octet (node_fields_of block).kind) (node_fields_of block) (sym (ap is_file at) ∙ file) in
      let here : octets_at (nodes_in arena) b ≡ Some block = node_entry arena b node ∙ is in
      subst (λ (x : Contents). HasWays arena ways x.run) (held_at b ∙ ap file_in here ∙ described.1) (store.kept.stored.led (length (lists_staged slots) + b))

  module _ (i : ℕ) (small : i < 64) where
    pub slot_there : i < length slots
    slot_there = omega (arith, store.kept.slots, length-map slots (λ (slot : Slot). slot.contents))

    module _ (slot : Slot) (is : slot ≡ get_or slots i slot) where
      pub slot_held : get_or (holdings (nodes_in arena) (lists_staged slots)) i no_contents ≡ slot.contents
      slot_held =
          get_or_append_left (lists_staged slots) (map file_in (nodes_in arena)) no_contents i (omega (arith, store.kept.slots))
          ∙ mapped_at (λ (slot : Slot). slot.contents) slots i slot no_contents slot_there is

      pub seen_staged : files.staged_in now.filestore i ≡ contents_in arena slot.contents
      seen_staged =
          sym (ap (λ (s : Store). files.staged_in s.filestore i) view)
          ∙ mapped_at (contents_in arena) (lists_staged slots) i slot.contents [] (omega (arith, store.kept.slots))
          (sym (mapped_at (λ (slot : Slot). slot.contents) slots i slot slot.contents slot_there is))

      pub slot_filled : IsFilled arena slot.contents
      slot_filled = subst (IsFilled arena) slot_held (store.kept.stored.filled i)

      pub slot_ways : HasWays arena ways slot.contents.run
      slot_ways = subst (λ (x : Contents). HasWays arena ways x.run) slot_held (store.kept.stored.led i)

      pub staged_size : length (files.staged_in now.filestore i) ≡ slot.contents.size
      staged_size = ap (λ (xs : List ℕ). length xs) seen_staged ∙ length-contents arena slot.contents slot_filled

      -- a longer list for which there are blocks
      module _ (size : ℕ) (room : blocks_of size - blocks_of (length (files.staged_in now.filestore i)) ≤ free_blocks now) where
        pub room_there : blocks_of size ≤ free_count arena + blocks_of slot.contents.size
        room_there = omega (arith, room, seen_free, ap blocks_of staged_size)

        pub size_fits : size ≤ 7864320
        unfolding blocks
        size_fits = blocks_of-bound size (omega (arith, room, seen_free, seen_blocks, lists-each now.filestore.staged i, store.kept.small))

  -- what each slot holds
  pub slot_at_held : (j : ℕ) (d : Slot) → j < length slots → get_or (holdings (nodes_in arena) (lists_staged slots)) j no_contents ≡ (get_or slots j d).contents
  slot_at_held j d within =
      slot_held j (omega (arith, within, store.kept.slots, length-map slots (λ (slot : Slot). slot.contents))) (get_or slots j d)
      (get_or_default slots j d (get_or slots j d) within)

  pub seen_slots : length now.filestore.staged ≡ 64
  seen_slots = sym (ap (λ (s : Store). length s.filestore.staged) view) ∙ length-map (lists_staged slots) (contents_in arena) ∙ store.kept.slots
