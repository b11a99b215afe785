-- The entries of a directory but for some of them.
--     is_entry_beside p others nodes b    the child of p that has the node's name is not among others
--     entries_beside p others nodes list  these of the nodes
--     AreChildrenInOrder p paths          all paths are children of p, and they are in path order
--     DividesAt p n paths start end       the paths of children of p with lesser names are before start, that of the
--                                         child of this name is from start on and before end, the rest from end on
use Rattle.std.specs.Prelude.{◌≡◌, ℕ, ◌≤◌, Bool, not, List, [], ◌∷◌, ◌++◌, All, length, slice_range}
use Rattle.std.specs.List.{filter, list_any}
use Rattle.std.specs.List.Sorted.{IsSorted}
use Rattle.cfdp_arena.specs.Arena.{Blocks}
use Rattle.std.specs.declared.cmp.Ordering.TheVariants.{Less}
use Rattle.cfdp_paths.specs.Paths.{Name, Path, parent, path_cmp, same_path}
use Rattle.cfdp_paths.specs.code.Paths.{name_cmp}
use Rattle.cfdp_tree.specs.code.Tree.{name_at}

abbrev pub is_entry_beside : Path → List Path → Blocks → ℕ → Bool
is_entry_beside p others nodes b = not (list_any (same_path (p ++ name_at nodes b ∷ [])) others)

abbrev pub entries_beside : Path → List Path → Blocks → List ℕ → List ℕ
entries_beside p others nodes list = filter (is_entry_beside p others nodes) list

pub record AreChildrenInOrder (p : Path) (paths : List Path) : Type 0 where
  pub children : All (λ q. parent q ≡ p) paths
  pub sorted : IsSorted path_cmp paths

pub record DividesAt (p : Path) (n : Name) (paths : List Path) (start end : ℕ) : Type 0 where
  pub upto : start ≤ end
  pub within : end ≤ length paths
  pub less : (m : Name) → name_cmp m n ≡ Less → list_any (same_path (p ++ m ∷ [])) (slice_range paths 0 start)
      ≡ list_any (same_path (p ++ m ∷ [])) paths
  pub here : list_any (same_path (p ++ n ∷ [])) (slice_range paths start end) ≡ list_any (same_path (p ++ n ∷ [])) paths
  pub more : (m : Name) → name_cmp n m ≡ Less
      → list_any (same_path (p ++ m ∷ [])) (slice_range paths end (length paths))
      ≡ list_any (same_path (p ++ m ∷ [])) paths
