use Rattle.std.proofs.Common.{take}
use Rattle.std.specs.Prelude.{flat_map}
use Rattle.std.specs.List.Sorted.{IsStrictlySortedBy}
use Rattle.std.specs.Option.{option_copied}
use Rattle.cfdp_paths.specs.Paths.{path_cmp}
use Rattle.cfdp_leases.specs.Footprint.{exclusive_in, shared_in}
use Rattle.cfdp_leases.specs.code.Footprint.{NoneIsRoot, SameSet}
use Rattle.cfdp_leases.specs.Items.{items_of}
use Rattle.cfdp_leases.proofs.gathering.footprint.Given as goal

-- the paths of the items so far
abbrev pub invariant-loop-request : goal.invariant-loop-request
invariant-loop-request l = record {
  exclusive_ordered : IsStrictlySortedBy path_cmp l.exclusive.items;
  shared_ordered : IsStrictlySortedBy path_cmp l.shared.items;
  named : NoneIsRoot l.exclusive.items;
  exclusive : SameSet l.exclusive.items (flat_map exclusive_in (items_of (option_copied l.fn.destination) (take l.request-index l.requests)));
  shared : SameSet l.shared.items (flat_map shared_in (items_of (option_copied l.fn.destination) (take l.request-index l.requests)));
}
