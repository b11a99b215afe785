-- What is at some paths, kept by their names.
--     with_extent, values_map     a map with a value at a path, or with none;  the map of all values of a branch
--     IsTallied m count used     no more than `count` paths have an extent, and their blocks are counted
--     IsDepthAt m p n            n is one more than the names from p to the deepest path at or below it that has an
--                                extent, or 0 where none has
use Rattle.std.specs.Prelude.{◌≡◌, ℕ, suc, ◌≤◌, ◌^◌, IsSome, [], ◌∷◌, ◌++◌, length, Option, Some, None}
use Rattle.std.specs.FinMap as finite
use Rattle.cfdp_paths.specs.Paths.{Path}
use Rattle.cfdp_branches.specs.Branches.{Branches}
use Rattle.cfdp_states.specs.declared.extent.Extent.{Extent}
use Rattle.cfdp_states.specs.Sketching.{Extents}
use Rattle.cfdp_states.specs.code.Sketching.{IsCounted}

abbrev pub with_extent : Path → Option Extent → Extents → Extents
with_extent p None m = finite.remove m p
with_extent p (Some e) m = finite.insert m p e

abbrev pub values_map : Branches Extent → Extents
values_map [] = finite.empty
values_map (s ∷ ss) = with_extent s.0 s.1 (values_map ss)

pub record IsTallied (m : Extents) (count used : ℕ) : Type 0 where
  pub counted : IsCounted (finite.entries m) used
  pub few : length (finite.entries m) ≤ count
  pub bounded : count ≤ 2 ^ 62

-- some path is one less deep, unless it is 0
pub data IsDeepAt (m : Extents) (p : Path) (n : ℕ) : Type 0 where
  nothing : n ≡ 0 → IsDeepAt m p n
  deep : (r : Path) → IsSome (finite.get m (p ++ r)) → suc (length r) ≡ n → IsDeepAt m p n

pub record IsDepthAt (m : Extents) (p : Path) (n : ℕ) : Type 0 where
  pub within : (r : Path) → IsSome (finite.get m (p ++ r)) → suc (length r) ≤ n
  pub reached : IsDeepAt m p n
