-- Files that were found in a store.
--     filled_blocks              octets have just the blocks for them
--     file_found, file_most      a file has a node, and no more octets than there can be
--     found_filled, found_ways, found_octets, found_size, found_blocks       its octets
--     found_same, found_apart    two of them are at one node, or their octets are apart
--     found_one, found_two       and their paths are one, or two
--     append_most, append_room   there are blocks for the octets of both, those of the other one after these
--     replace_room, replace_most there are blocks for the octets of the other one instead of these
--     found_store, found_changes     its octets change
use Rattle.std.proofs.Common.{◌≡◌, ◌≢◌, ℕ, ◌+◌, ◌-◌, ◌≤◌, Bool, true, false, List, [], ◌∷◌, length, get_or, Option, Some, None, refl, sym, ap, ◌∙◌, subst, arith}
use Rattle.std.specs.FinMap as finite
use Rattle.std.specs.FinMap.{get-entries}
use Rattle.cfdp_paths.specs.Paths.{Path, same_path}
use Rattle.cfdp_paths.proofs.Comparing.{same_path-Decides}
use Rattle.cfdp_arena.specs.Arena.{Blocks, free_count, with_block}
use Rattle.cfdp_actions.specs.declared.kind.Kind.TheVariants as kind
use Rattle.cfdp_actions.specs.Filestore.{Node, File, Becomes, node_at, octets_in, file_octets_at, is_file, blocks_of, blocks, weight}
use Rattle.cfdp_actions.specs.Store.{Store, free_blocks, with_changes}
use Rattle.cfdp_actions.proofs.StoreLaws.{weight-found, octets-weight}
use Rattle.cfdp_actions.proofs.BlocksLaws.{blocks_of-bound}
use Rattle.cfdp_tree.specs.declared.contents.Contents.{Contents}
use Rattle.cfdp_tree.specs.declared.files.FoundFile.{FoundFile}
use Rattle.cfdp_ways.specs.declared.way.Way.{Way}
use Rattle.cfdp_tree.specs.declared.slots.Slot.{Slot}
use Rattle.cfdp_tree.specs.code.NodeFields.{node_fields_of, node_name}
use Rattle.cfdp_tree.specs.code.Runs.{Apart, Spares, RunsStay}
use Rattle.cfdp_tree.specs.code.Ways.{HasWays, KeepsWays}
use Rattle.cfdp_tree.specs.code.Contents.{IsFilled, contents_in}
use Rattle.cfdp_tree.specs.code.Nodes.{nodes_in}
use Rattle.cfdp_tree.specs.code.Tree.{IsNode, node_fields_at, name_at, path_of_node}
use Rattle.cfdp_tree.specs.code.Index.{Heads}
use Rattle.cfdp_tree.specs.code.Kept.{contents_of_fields, no_contents, holdings, store_of}
use Rattle.cfdp_tree.specs.code.Slots.{lists_staged, IsStore}
use Rattle.cfdp_tree.specs.code.Files.{with_contents}
use Rattle.cfdp_tree.proofs.OfRuns.ContentsLaws.{length-contents}
use Rattle.cfdp_tree.proofs.OfNodes.TreeLaws.{same_node}
use Rattle.cfdp_tree.proofs.OfStore.SeenLaws.{shows, seen_free, seen_blocks, file_small}
use Rattle.cfdp_tree.proofs.OfStore.FileLaws.{file_there, file_filled, held_here, file_store, file_changes}

pub filled_blocks : (arena : Blocks) (contents : Contents) → IsFilled arena contents → contents.run.count ≡ blocks_of contents.size
filled_blocks arena contents filled = filled.blocks

some_node : (o : Option Node) → is_file o ≡ true → (node : Node) × (o ≡ Some node)
some_node None file = cc
some_node (Some node) file = (node, refl)

module _ (arena : Blocks) (heads : Heads) (slots : List Slot) {ways : List Way} (store : IsStore arena ways heads slots) (now : Store)
    (view : store_of arena (lists_staged slots) ≡ now) where
  abbrev nodes : Blocks
  nodes = nodes_in arena

  pub file_found : (p : Path) → is_file (node_at now.filestore p) ≡ true → (b : ℕ) × IsNode nodes b × (path_of_node nodes b ≡ p)
  file_found p file = (let some = some_node (node_at now.filestore p) file in (shows arena heads slots store now view).only p some.0 some.1)

  file_weighed : (p : Path) → blocks_of (length (file_octets_at now.filestore p)) ≤ blocks now.filestore
  unfolding blocks
  file_weighed p = omega (
    arith,
    octets-weight (node_at now.filestore p),
    weight-found (finite.entries now.filestore.nodes) p,
    ap weight (get-entries now.filestore.nodes p),
  )

  module _ (p : Path) (file : is_file (node_at now.filestore p) ≡ true) where
    octets_there : (b : ℕ) (node : IsNode nodes b) (way : path_of_node nodes b ≡ p) → file_octets_at now.filestore p
        ≡ contents_in arena (contents_of_fields kind.File (node_fields_at nodes b))
    octets_there b node way = ap octets_in (file_there arena heads slots store now view b p node way file)

    pub file_most : (b : ℕ) → IsNode nodes b → path_of_node nodes b ≡ p → (node_fields_at nodes b).size ≤ 7864320
    file_most b node way = omega (
      arith,
      ap (λ (xs : List ℕ). length xs) (octets_there b node way),
      length-contents arena (contents_of_fields kind.File (node_fields_at nodes b)) (file_filled arena heads slots store now view b p node way file),
      file_small arena heads slots store now view p,
    )

    module _ (found : FoundFile) (node : IsNode nodes found.node) (way : path_of_node nodes found.node ≡ p) (is : found.contents
        ≡ contents_of_fields kind.File (node_fields_at nodes found.node)) where
      pub found_ways : HasWays arena ways found.contents.run
      found_ways = subst (λ (x : Contents). HasWays arena ways x.run) (sym is)
          (subst (λ (x : Contents). HasWays arena ways x.run) (held_here arena heads slots store now view found.node p node way file)
          (store.kept.stored.led (length (lists_staged slots) + found.node)))

      pub found_filled : IsFilled arena found.contents
      found_filled = subst (IsFilled arena) (sym is) (file_filled arena heads slots store now view found.node p node way file)

      pub found_octets : file_octets_at now.filestore p ≡ contents_in arena found.contents
      found_octets = octets_there found.node node way ∙ ap (contents_in arena) (sym is)

      pub found_size : length (file_octets_at now.filestore p) ≡ found.contents.size
      found_size = ap (λ (xs : List ℕ). length xs) found_octets ∙ length-contents arena found.contents found_filled

      pub found_blocks : found.contents.run.count ≡ blocks_of (length (file_octets_at now.filestore p))
      found_blocks = found_filled.blocks ∙ ap blocks_of (sym found_size)

      -- its octets are others
      module _ (middle later : Blocks) (after : Contents) (written : List ℕ) (nodes_middle : nodes_in middle ≡ nodes) (long_middle : length middle
          ≡ length arena)
          (spares : Spares arena middle found.contents.run after.run) (filled : IsFilled middle after) (taken : free_count middle + blocks_of after.size
          ≡ free_count arena + blocks_of found.contents.size)
          (nodes_later : nodes_in later ≡ with_block (nodes_in middle) found.node written) (fields : node_fields_of written
          ≡ with_contents (node_fields_at (nodes_in middle) found.node) after)
          (name : node_name written ≡ name_at (nodes_in middle) found.node) (whole : length written ≡ 128) (runs : RunsStay middle later)
          (free : free_count later
          ≡ free_count middle) (long : length later ≡ length middle)
          (octets : List ℕ) (octets_is : contents_in middle after ≡ octets) where
        pub found_store : (ways_now : List Way) → HasWays middle ways_now after.run → KeepsWays arena middle ways ways_now found.contents.run →
            IsStore later ways_now heads slots
        found_store ways_now has keeps = file_store arena heads slots store now view found.node p node way file middle later after written nodes_middle
            long_middle
            (subst (λ (x : Contents). Spares arena middle x.run after.run) is spares) filled (taken
            ∙ ap (λ (x : Contents). free_count arena + blocks_of x.size) is)
            nodes_later fields name whole runs free long octets octets_is ways_now has
            (subst (λ (x : Contents). KeepsWays arena middle ways ways_now x.run) is keeps)

        pub found_changes : store_of later (lists_staged slots) ≡ with_changes now (Becomes p (Some (File octets)) ∷ [])
        found_changes = file_changes arena heads slots store now view found.node p node way file middle later after written nodes_middle long_middle
            (subst (λ (x : Contents). Spares arena middle x.run after.run) is spares) filled (taken
            ∙ ap (λ (x : Contents). free_count arena + blocks_of x.size) is)
            nodes_later fields name whole runs free long octets octets_is

      -- and another one
      module _ (q : Path) (also : is_file (node_at now.filestore q) ≡ true) (other : FoundFile) (other_node : IsNode nodes other.node)
          (other_way : path_of_node nodes other.node ≡ q)
          (other_is : other.contents ≡ contents_of_fields kind.File (node_fields_at nodes other.node)) where
        other_size : length (file_octets_at now.filestore q) ≡ other.contents.size
        other_size =
            ap (λ (xs : List ℕ). length xs) (ap octets_in (file_there arena heads slots store now view other.node q other_node other_way also)
            ∙ ap (contents_in arena) (sym other_is))
            ∙ length-contents arena other.contents (subst (IsFilled arena) (sym other_is)
            (file_filled arena heads slots store now view other.node q other_node other_way also))

        pub found_same : found.node ≡ other.node → found.contents ≡ other.contents
        found_same e = is ∙ ap (λ b. contents_of_fields kind.File (node_fields_at nodes b)) e ∙ sym other_is

        -- and their paths are one, or two
        pub found_one : found.node ≡ other.node → same_path p q ≡ true
        found_one e = (same_path-Decides p q).1 (sym way ∙ ap (path_of_node nodes) e ∙ other_way)

        pub found_two : found.node ≢ other.node → same_path p q ≡ false
        found_two differ = by_case (same_path p q) refl
          where
            by_case : (same : Bool) → same_path p q ≡ same → same_path p q ≡ false
            by_case false e = e
            by_case true e = absurd (differ (same_node nodes store.kept.tree found.node other.node node other_node (way ∙ (same_path-Decides p q).0 e
                ∙ sym other_way)))

        pub found_apart : found.node ≢ other.node → Apart found.contents.run other.contents.run
        found_apart differ =
            let staged = lists_staged slots in
            let here = held_here arena heads slots store now view found.node p node way file ∙ sym is in
            let there = held_here arena heads slots store now view other.node q other_node other_way also ∙ sym other_is in
            subst (λ (x : Contents). Apart x.run other.contents.run) here
            (subst (λ (x : Contents). Apart (get_or (holdings nodes staged) (length staged + found.node) no_contents).run x.run) there
            (store.kept.stored.apart (length staged + found.node) (length staged + other.node) (λ e. differ (omega (arith, e)))))

        -- there is room for the octets of both
        module _ (room : blocks_of (length (file_octets_at now.filestore p) + length (file_octets_at now.filestore q)) - blocks_of
            (length (file_octets_at now.filestore p)) ≤ free_blocks now) where
          sizes : length (file_octets_at now.filestore p) + length (file_octets_at now.filestore q) ≡ found.contents.size + other.contents.size
          sizes = (λ k. found_size k + other_size k)

          pub append_room : blocks_of (found.contents.size + other.contents.size) ≤ free_count arena + blocks_of found.contents.size
          append_room = omega (arith, room, ap blocks_of sizes, ap blocks_of found_size, seen_free arena heads slots store now view)

          pub append_most : found.contents.size + other.contents.size ≤ 7864320
          append_most = blocks_of-bound (found.contents.size + other.contents.size)
              (omega (arith, append_room, ap blocks_of found_size, file_weighed p, seen_blocks arena heads slots store now view, store.kept.small))

        pub replace_room : blocks_of (length (file_octets_at now.filestore q)) ≤ free_blocks now + blocks_of (length (file_octets_at now.filestore p)) →
            blocks_of other.contents.size ≤ free_count arena + blocks_of found.contents.size
        replace_room room = omega (arith, room, ap blocks_of found_size, ap blocks_of other_size, seen_free arena heads slots store now view)

        pub replace_most : other.contents.size ≤ 7864320
        replace_most = omega (arith, other_size, file_small arena heads slots store now view q)
