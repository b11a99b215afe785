-- A path's parent, where it is the root or a directory.
--     parent_directory, parent_path     a node that is found is a directory, and its path is that of the parent
--     parent_exists                     it is the root or a directory
use Rattle.std.proofs.Common.{◌≡◌, ℕ, zero, suc, ◌+◌, true, not, length, take, Option, Some, None, refl, sym, ap, ◌∙◌, subst, ◌≤◌, arith}
use Rattle.std.specs.Prelude.{IfSome, IfNone}
use Rattle.std.proofs.lemmas.Option.{none-some, same_Some}
use Rattle.cfdp_paths.specs.Paths.{Path}
use Rattle.cfdp_arena.specs.Arena.{Blocks, octets_of}
use Rattle.cfdp_actions.specs.declared.kind.Kind.{Kind}
use Rattle.cfdp_actions.specs.declared.kind.Kind.TheVariants as kind
use Rattle.cfdp_actions.specs.Filestore.{Node, Filestore, node_at, is_directory, parent_is_good}
use Rattle.cfdp_actions.specs.Store.{is_file_kind}
use Rattle.cfdp_tree.specs.code.NodeFields.{node_fields_of, kind_of_octet}
use Rattle.cfdp_tree.specs.code.Tree.{IsNode, IsDirectory, path_of_node, IsTree}
use Rattle.cfdp_tree.specs.code.Kept.{file_of, Shows}
use Rattle.cfdp_tree.specs.code.Directories.{path_at, IsAtPath}
use Rattle.cfdp_tree.proofs.OfNodes.ClimbLaws.{some_path}
use Rattle.cfdp_tree.proofs.OfStore.SeenLaws.{seen_parent, node_is_directory}

directory_kind : (k : Kind) → not (is_file_kind k) ≡ true → k ≡ kind.Directory
directory_kind kind.File directory = cc
directory_kind kind.Directory directory = refl

module _ (arena nodes : Blocks) (tree : IsTree nodes) (F : Filestore) (shows : Shows arena nodes F.nodes) (path : Path) (depth : ℕ) (long : length path ≡ depth
    + 1) (good : parent_is_good F path ≡ true) where
  good_node : 1 ≤ depth → is_directory (node_at F (take depth path)) ≡ true
  good_node some = sym (seen_parent F path depth long some) ∙ good

  abbrev pub Found : Option ℕ → Type 0
  Found directory = IfSome directory (λ b. IsNode nodes b) × IfSome directory (λ b. path_of_node nodes b ≡ take depth path)
      × IfNone directory ((b : ℕ) → IsNode nodes b → path_of_node nodes b ≡ take depth path → ⊥)

  no_directory : (o : Option Node) → ((node : Node) → o ≡ Some node → ⊥) → is_directory o ≡ true → ⊥
  no_directory None none directory = cc
  no_directory (Some node) none directory = none node refl

  of_node : (b : ℕ) → 1 ≤ depth → IsNode nodes b → path_of_node nodes b ≡ take depth path → IsDirectory nodes b
  of_node b some node way =
      let block = octets_of nodes b in
      let at = sym (ap (node_at F) way) ∙ shows.each b node in
      let described = sym (node_is_directory arena (kind_of_octet (node_fields_of block).kind) (file_of block)) ∙ sym (ap is_directory at) ∙ good_node some in
      record { node = node; directory = directory_kind (kind_of_octet (node_fields_of block).kind) described }

  exists : (n : ℕ) → n ≡ depth → (directory : Option ℕ) → Found directory → ((d : ℕ) → directory ≡ Some d → IsDirectory nodes d) ×
      (path_at nodes directory ≡ take depth path)
  exists zero is None found = ((λ d e. absurd (none-some d e)), ap (λ n. take n path) is)
  exists zero is (Some b) found = absurd (some_path nodes tree b found.0 (found.1 ∙ sym (ap (λ n. take n path) is)))
  exists (suc n) is None found = absurd (no_directory (node_at F (take depth path))
      (λ node e. (let at = shows.only (take depth path) node e in found.2 at.0 at.1 at.2)) (good_node (omega (arith, is))))
  exists (suc n) is (Some b) found = ((λ d e. subst (IsDirectory nodes) (same_Some _ _ e) (of_node b (omega (arith, is)) found.0 found.1)), found.1)

  module _ (directory : Option ℕ) (found : Found directory) where
    pub parent_directory : (d : ℕ) → directory ≡ Some d → IsDirectory nodes d
    parent_directory = (exists depth refl directory found).0

    pub parent_path : path_at nodes directory ≡ take depth path
    parent_path = (exists depth refl directory found).1

    pub parent_exists : IsAtPath nodes directory (take depth path)
    parent_exists = record { node = (λ d e. (parent_directory d e).node); path = parent_path }
