use Rattle.std.proofs.Common.{◌≡◌, length}
use Rattle.cfdp_order.proofs.tests.keys_of.Given as goal

abbrev pub invariant-loop-node : goal.invariant-loop-node
invariant-loop-node l = length l.keys.items ≡ l.node
