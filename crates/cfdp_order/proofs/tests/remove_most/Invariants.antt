use Rattle.std.proofs.Common.{◌≡◌, length}
use Rattle.cfdp_order.specs.Orders.{IsOrder}
use Rattle.cfdp_order.proofs.tests.remove_most.Given as goal

abbrev pub invariant-loop-node : goal.invariant-loop-node
invariant-loop-node l = record {
  order : IsOrder l.made.links.items l.made.order;
  long : length l.made.links.items ≡ length l.keys;
}
