-- In a filestore that a tree shows, each path's parent is the root or a directory.
--     tree_rooted
use Rattle.std.proofs.Common.{◌≡◌, ℕ, true, false, not, ◌&&◌, [], ◌∷◌, ◌++◌, Option, Some, None, refl, sym, ap, ◌∙◌}
use Rattle.std.specs.Prelude.{IsSome, unwrap_or}
use Rattle.cfdp_paths.specs.Paths.{Name, Path}
use Rattle.cfdp_paths.proofs.Below.{parent-push}
use Rattle.cfdp_arena.specs.Arena.{Blocks, octets_of}
use Rattle.cfdp_actions.specs.Store.{is_file_kind}
use Rattle.cfdp_actions.specs.Filestore.{Filestore, Node, Directory, node_at, is_directory, is_good, is_root, parent_is_good, IsRooted}
use Rattle.cfdp_tree.specs.code.NodeFields.{node_fields_of, kind_of_octet}
use Rattle.cfdp_tree.specs.code.Tree.{IsNode, name_at, home, path_of_node, IsTree}
use Rattle.cfdp_tree.specs.code.Directories.{path_at}
use Rattle.cfdp_tree.specs.code.Kept.{file_of, Shows}
use Rattle.cfdp_tree.proofs.OfNodes.ClimbLaws.{path_by_home, some_path}
use Rattle.cfdp_tree.proofs.OfStore.SeenLaws.{node_is_directory}

no_root : (above : Path) (n : Name) → is_root (above ++ n ∷ []) ≡ false
no_root [] n = refl
no_root (m ∷ above) n = refl

good_some : (F : Filestore) (p : Path) → (p ≡ [] → ⊥) → is_good F p ≡ is_directory (node_at F p)
good_some F [] some = absurd (some refl)
good_some F (n ∷ p) some = refl

some_node : (o : Option Node) → IsSome o → o ≡ Some (unwrap_or o (Directory))
some_node None some = cc
some_node (Some node) some = refl

module _ (arena nodes : Blocks) (tree : IsTree nodes) (F : Filestore) (shows : Shows arena nodes F.nodes) where
  good_at : (b : ℕ) → IsNode nodes b → (x : Option ℕ) → home nodes b ≡ x → is_good F (path_at nodes x) ≡ true
  good_at b node None there = refl
  good_at b node (Some d) there =
      let directory = tree.homes b d node there in
      let block = octets_of nodes d in
      good_some F (path_of_node nodes d) (some_path nodes tree d directory.node)
      ∙ ap is_directory (shows.each d directory.node)
      ∙ node_is_directory arena (kind_of_octet (node_fields_of block).kind) (file_of block)
      ∙ ap (λ k. not (is_file_kind k)) directory.directory

  pub tree_rooted : IsRooted F
  tree_rooted p some =
      let at = shows.only p (unwrap_or (node_at F p) (Directory)) (some_node (node_at F p) some) in
      let b = at.0 in
      let above = path_at nodes (home nodes b) in
      let whole : p ≡ above ++ name_at nodes b ∷ [] = sym at.2 ∙ path_by_home nodes tree b at.1 in
      ap (parent_is_good F) whole
      ∙ (λ k. not (no_root above (name_at nodes b) k) && is_good F (parent-push above (name_at nodes b) k))
      ∙ good_at b at.1 (home nodes b) refl
