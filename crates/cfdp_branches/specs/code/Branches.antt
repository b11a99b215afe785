-- What only the proofs of the code need of `Branches`.
--     below_name n es, all_below cs     a tree one name further down;  those of branches, each below its name
--     branches_of v cs                  the tree of a branch with this value and these branches below
--     under_names cs                    branches by the path of their one name
--     in_branch p o                     what is at p below a branch, if there is one
--     IsOpened n cs ds                  the branches as they were, or with a new one for n, which had none
--     IsReachedBy, AreLevels v cs i n   n is one more than the names to the deepest value, of v or below one of the
--                                       first i branches
use Rattle.std.specs.Prelude.{◌≡◌, ℕ, suc, ◌<◌, ◌≤◌, slice_index_or, IsSome, List, [], ◌∷◌, ◌++◌, map, length, Option, Some, None}
use Rattle.std.specs.FinMap.{find, put}
use Rattle.cfdp_paths.specs.Paths.{Name, Path, path_cmp}
use Rattle.cfdp_branches.specs.Branches.{Branches, value_at}

abbrev pub below_name : {X : Type 0} → Name → List (Path × X) → List (Path × X)
below_name {X} n es = map {B = Path × X} (λ e. (n ∷ e.0, e.1)) es

abbrev pub all_below : {X : Type 0} → List (Name × List (Path × X)) → List (Path × X)
all_below [] = []
all_below (c ∷ cs) = below_name c.0 c.1 ++ all_below cs

abbrev pub branches_of : {X : Type 0} → Option X → List (Name × Branches X) → Branches X
branches_of v cs = ([], v) ∷ all_below cs

abbrev pub under_names : {Y : Type 0} → List (Name × Y) → List (Path × Y)
under_names {Y} cs = map {B = Path × Y} (λ c. (c.0 ∷ [], c.1)) cs

abbrev pub in_branch : {X : Type 0} → Path → Option (List (Path × X)) → Option X
in_branch p None = None
in_branch p (Some es) = find path_cmp p es

pub data IsOpened {X : Type 0} (n : Name) (cs : List (Name × Branches X)) : List (Name × Branches X) → Type 0 where
  stays : IsOpened n cs cs
  opens : (ds : List (Name × Branches X)) → find path_cmp (n ∷ []) (under_names cs) ≡ None
      → under_names ds ≡ put path_cmp (n ∷ []) (([], None) ∷ []) (under_names cs) → IsOpened n cs ds

-- as `IsReached` has it
pub data IsReachedBy {X : Type 0} (v : Option X) (cs : List (Name × Branches X)) (i n : ℕ) : Type 0 where
  no_value_by : n ≡ 0 → IsReachedBy v cs i n
  deepest_own : IsSome v → n ≡ 1 → IsReachedBy v cs i n
  deepest_below : (j : ℕ) (p : Path) → j < i → ((d : Name × Branches X) → IsSome (value_at (slice_index_or cs j d).1 p))
      → suc (suc (length p)) ≡ n → IsReachedBy v cs i n

pub record AreLevels {X : Type 0} (v : Option X) (cs : List (Name × Branches X)) (i n : ℕ) : Type 0 where
  pub own : IsSome v → 1 ≤ n
  pub within : (j : ℕ) (d : Name × Branches X) → j < i → (p : Path) → IsSome (value_at (slice_index_or cs j d).1 p)
      → suc (suc (length p)) ≤ n
  pub reached : IsReachedBy v cs i n
