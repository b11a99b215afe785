-- What is at some paths, kept by their names.
--     Branches                       a list of paths that have a branch, each with the value that it has, if any
--     value_in o, value_at es p      the value in what was found, if any was;  the value that is at p, if any is
--     has_branch es p                whether p has a branch
--     IsReached es n                 n is 0, or one more than the names of a path that has a value
--     IsLevels es n                  n is one more than the names of the longest path that has a value, or 0 where none
--                                    has
--     IsShallow n es                 below a path of n names, no path that has a value has more than 8 names
--     AreSameValues es fs            the same values at all paths
use Rattle.std.specs.Prelude.{◌≡◌, ℕ, suc, ◌+◌, ◌≤◌, Bool, IsSome, is_some, List, length, Option, Some, None}
use Rattle.std.specs.FinMap.{find}
use Rattle.cfdp_paths.specs.Paths.{Path, path_cmp}

abbrev pub Branches : Type 0 → Type 0
Branches X = List (Path × Option X)

abbrev pub value_in : {X : Type 0} → Option (Option X) → Option X
value_in None = None
value_in (Some v) = v

abbrev pub value_at : {X : Type 0} → Branches X → Path → Option X
value_at es p = value_in (find path_cmp p es)

abbrev pub has_branch : {X : Type 0} → Branches X → Path → Bool
has_branch es p = is_some (find path_cmp p es)

-- some path with a value is one shorter, unless it is 0
pub data IsReached {X : Type 0} (es : Branches X) (n : ℕ) : Type 0 where
  no_value : n ≡ 0 → IsReached es n
  deepest : (p : Path) → IsSome (value_at es p) → suc (length p) ≡ n → IsReached es n

pub record IsLevels {X : Type 0} (es : Branches X) (n : ℕ) : Type 0 where
  pub within : (p : Path) → IsSome (value_at es p) → suc (length p) ≤ n
  pub reached : IsReached es n

abbrev pub IsShallow : {X : Type 0} → ℕ → Branches X → Type 0
IsShallow n es = (p : Path) → IsSome (value_at es p) → n + length p ≤ 8

abbrev pub AreSameValues : {X : Type 0} → Branches X → Branches X → Type 0
AreSameValues es fs = (p : Path) → value_at es p ≡ value_at fs p
