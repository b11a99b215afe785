-- What only the proofs of the code need of `Footprint`.
--     SameSet                            two lists have the same paths
--     of_lists exclusive shared          the footprint of two lists of paths
--     HasAncestors fp                    the proper ancestors of what it leases are shared, and it does not lease the
--                                        root exclusively
--     NoneIsRoot paths                   none of them is the root
--     HaveAncestors paths                each path's proper ancestors are among them
--     IsSoundFootprint exclusive shared  both lists are in path order, each path once, with the ancestors of their
--                                        paths
--     has_any paths wanted               one of the wanted paths is in the set
use Rattle.std.specs.Prelude.{◌≡◌, ◌≢◌, Bool, IsTrue, List, [], refl}
use Rattle.std.specs.List.{list_any, AllByRecursion}
use Rattle.std.specs.List.Sorted.{IsStrictlySortedBy}
use Rattle.std.specs.Coded.{Coded, code_by, coded×, coded_list, coded_ℕ}
use Rattle.std.specs.FinSet as set
use Rattle.cfdp_paths.specs.Paths.{Path, path_cmp, same_path, ancestors}
use Rattle.cfdp_leases.specs.Footprint.{PathSet, Footprint, leased}

-- two lists of the same paths, in whatever order and however often they come
abbrev pub SameSet : List Path → List Path → Type 0
SameSet paths others = set.from_list {R = path_cmp} paths ≡ set.from_list others

-- the footprint of two lists of paths
abbrev pub of_lists : List Path → List Path → Footprint
of_lists exclusive shared = record { exclusive = set.from_list exclusive; shared = set.from_list shared }

abbrev pub paths_code : Coded PathSet
paths_code = set.code (coded_list (coded_list coded_ℕ))

abbrev pub footprint_code : Coded Footprint
footprint_code =
    code_by (PathSet × PathSet) (coded× paths_code paths_code) (λ fp. (fp.exclusive, fp.shared))
    (λ p. record { exclusive = p.0; shared = p.1 }) (λ _. refl)

-- the proper ancestors of each leased path are shared, and the root is not leased exclusively
pub record HasAncestors (fp : Footprint) : Type 0 where
  pub above : (p q : Path) → IsTrue (set.contains (leased fp) p) → IsTrue (list_any (same_path q) (ancestors p)) →
      IsTrue (set.contains fp.shared q)
  pub names : (p : Path) → IsTrue (set.contains fp.exclusive p) → p ≢ []

-- none of the paths is the root
abbrev pub NoneIsRoot : List Path → Type 0
NoneIsRoot paths = AllByRecursion (λ p. p ≢ []) paths

-- the proper ancestors of each path are among the paths
abbrev pub HaveAncestors : List Path → Type 0
HaveAncestors paths = (p q : Path) → IsTrue (list_any (same_path p) paths) →
    IsTrue (list_any (same_path q) (ancestors p)) → IsTrue (list_any (same_path q) paths)

-- both lists are in path order, each path once, and they have the ancestors of their paths
pub record IsSoundFootprint (exclusive shared : List Path) : Type 0 where
  pub of_exclusive : IsStrictlySortedBy path_cmp exclusive
  pub of_shared : IsStrictlySortedBy path_cmp shared
  pub ancestors : HasAncestors (of_lists exclusive shared)

-- one of the paths is in the set
abbrev pub has_any : PathSet → List Path → Bool
has_any paths wanted = list_any (λ p. set.contains paths p) wanted
