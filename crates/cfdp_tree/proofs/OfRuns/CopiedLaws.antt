-- What is copied of a file.
--     directory_there, file_there, file_held, file_ways     what exists at a path, by its node's block
--     none_copied                    where there are no octets the buffer stays
--     copied                         this many octets, read from where the copy begins
use Rattle.std.proofs.Common.{rules, ◌≡◌, ℕ, ◌+◌, ◌≤◌, List, [], ◌++◌, drop, length, Some, sym, ap, ◌∙◌, arith}
use Rattle.std.specs.Prelude.{slice_range}
use Rattle.cfdp_arena.specs.Arena.{Blocks, octets_at}
use Rattle.cfdp_paths.specs.Paths.{Path}
use Rattle.cfdp_actions.specs.declared.kind.Kind.TheVariants as kind
use Rattle.cfdp_actions.specs.Filestore.{Directory, File, node_at, is_file}
use Rattle.cfdp_actions.specs.Store.{Store}
use Rattle.cfdp_ways.specs.declared.way.Way.{Way}
use Rattle.cfdp_tree.specs.declared.slots.Slot.{Slot}
use Rattle.cfdp_tree.specs.code.Index.{Heads}
use Rattle.cfdp_tree.specs.code.NodeFields.{node_fields_of, kind_of_octet}
use Rattle.cfdp_tree.specs.code.Nodes.{nodes_in}
use Rattle.cfdp_tree.specs.code.Tree.{IsNode, path_of_node}
use Rattle.cfdp_tree.specs.code.Contents.{IsFilled, contents_in}
use Rattle.cfdp_tree.specs.code.Kept.{contents_of_fields, node_with, store_of}
use Rattle.cfdp_tree.specs.code.Slots.{lists_staged, IsStore}
use Rattle.cfdp_tree.specs.Found.{beginning, fitting, with_octets}
use Rattle.cfdp_tree.proofs.OfRuns.ContentsLaws.{length-contents}
use Rattle.cfdp_tree.proofs.OfStore.SeenLaws.{seen_block, seen_file, file_small}
use Rattle.cfdp_tree.proofs.OfStore.SeenLaws as seen_laws
use Rattle.cfdp_tree.specs.code.Ways.{HasWays}

module _ (arena : Blocks) (heads : Heads) (slots : List Slot) {ways : List Way} (store : IsStore arena ways heads slots) (now : Store)
    (view : store_of arena (lists_staged slots) ≡ now)
    (b : ℕ) (p : Path) (block : List ℕ) (node : IsNode (nodes_in arena) b) (way : path_of_node (nodes_in arena) b ≡ p)
    (is : octets_at arena b ≡ Some block) where
  pub directory_there : kind.Directory ≡ kind_of_octet (node_fields_of block).kind → node_at now.filestore p ≡ Some Directory
  directory_there described =
      seen_block arena heads slots store now view b p block node way is
      ∙ ap (λ k. Some (node_with arena k (contents_of_fields k (node_fields_of block)))) (sym described)

  module _ (described : kind.File ≡ kind_of_octet (node_fields_of block).kind) where
    pub file_there : node_at now.filestore p ≡ Some (File (contents_in arena (contents_of_fields kind.File (node_fields_of block))))
    file_there =
        seen_block arena heads slots store now view b p block node way is
        ∙ ap (λ k. Some (node_with arena k (contents_of_fields k (node_fields_of block)))) (sym described)

    pub file_held : IsFilled arena (contents_of_fields kind.File (node_fields_of block)) × ((node_fields_of block).size ≤ 7864320)
    file_held =
        let seen = seen_file arena heads slots store now view b p block node way is (ap is_file file_there) in
        let small = file_small arena heads slots store now view p in
        (seen.1, omega (arith, small, ap length seen.0, length-contents arena (contents_of_fields kind.File (node_fields_of block)) seen.1))

    pub file_ways : HasWays arena ways (contents_of_fields kind.File (node_fields_of block)).run
    file_ways = seen_laws.file_ways arena heads slots store now view b p block node way is (ap is_file file_there)

none_fits : (at : ℕ) (buffer : List ℕ) → fitting [] at buffer ≡ 0
none_fits at buffer = omega arith

pub none_copied : (at : ℕ) (buffer : List ℕ) → with_octets [] at buffer ≡ buffer
none_copied at buffer =
    ap (λ n. slice_range [] (beginning [] at) (beginning [] at + n) ++ drop n buffer) (none_fits at buffer)
    ∙ ap (λ (octets : List ℕ). octets ++ buffer) (none_there (beginning [] at))
  where
    none_there : (start : ℕ) → slice_range {X = ℕ} [] start (start + 0) ≡ []
    none_there start = search rules

pub copied : (octets buffer piece : List ℕ) (at start count long : ℕ) → start ≡ beginning octets at → count ≡ fitting octets at buffer → long ≡ count → piece
    ≡ slice_range octets start (start + long)
    → piece ++ drop count buffer ≡ with_octets octets at buffer
copied octets buffer piece at start count long begins fits whole read =
    ap (λ o. o ++ drop count buffer) (read ∙ ap (λ n. slice_range octets start (start + n)) whole ∙ ap (λ s. slice_range octets s (s + count)) begins)
    ∙ ap (λ n. slice_range octets (beginning octets at) (beginning octets at + n) ++ drop n buffer) fits
