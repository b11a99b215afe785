use Rattle.std.proofs.Common.{◌≡◌, ℕ, ◌+◌, ◌≤◌, length}
use Rattle.cfdp_order.specs.Orders.{nodes, times_in, IsOrder}
use Rattle.cfdp_order.proofs.tests.pair_of.Given as goal

abbrev pub invariant-loop-node : goal.invariant-loop-node
invariant-loop-node l = record {
  even : IsOrder l.links.items l.even;
  odd : IsOrder l.links.items l.odd;
  long : length l.links.items ≡ length l.keys;
  fresh : (n : ℕ) → l.node ≤ n → times_in n (nodes l.links.items l.even) + times_in n (nodes l.links.items l.odd) ≡ 0;
  apart : (n : ℕ) → times_in n (nodes l.links.items l.even) + times_in n (nodes l.links.items l.odd) ≤ 1;
}
