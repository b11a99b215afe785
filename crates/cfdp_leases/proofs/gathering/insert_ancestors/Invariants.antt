use Rattle.std.proofs.Common.{◌<◌, ◌++◌, length, take}
use Rattle.std.specs.List.Sorted.{IsStrictlySortedBy}
use Rattle.cfdp_paths.specs.Paths.{path_cmp, ancestors}
use Rattle.cfdp_leases.specs.code.Footprint.{SameSet}
use Rattle.cfdp_leases.proofs.Closed.{HaveAncestorsTo}
use Rattle.cfdp_leases.proofs.gathering.insert_ancestors.Given as goal

-- with the ancestors that are left, those that are wanted
abbrev pub invariant-loop-count : goal.invariant-loop-count
invariant-loop-count l = record {
  ordered : IsStrictlySortedBy path_cmp l.paths.items;
  left : SameSet (l.paths.items ++ ancestors (take l.count l.path)) (l.fn.paths.items ++ ancestors l.path);
  closed : HaveAncestorsTo l.count l.paths.items;
  before : l.parent < length l.paths.items;
}
