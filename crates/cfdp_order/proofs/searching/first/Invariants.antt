use Rattle.std.proofs.Common.{◌≡◌}
use Rattle.std.specs.Prelude.{slice_get}
use Rattle.std.specs.Option.{option_or}
use Rattle.cfdp_order.specs.Orders.{nodes, IsOrder}
use Rattle.cfdp_order.proofs.searching.first.Given as goal

abbrev pub invariant-loop-found : goal.invariant-loop-found
invariant-loop-found l = record {
  order : IsOrder l.links l.part;
  first : option_or (slice_get (nodes l.links l.part) 0) l.found ≡ slice_get (nodes l.links l.fn.order) 0;
}

abbrev pub decreases-loop-found : goal.decreases-loop-found
decreases-loop-found l = l.part.height
