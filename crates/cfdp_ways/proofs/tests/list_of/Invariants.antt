use Rattle.std.proofs.Common.{◌≡◌, ◌≤◌, length}
use Rattle.cfdp_ways.specs.Ways.{IsLed}
use Rattle.cfdp_ways.proofs.tests.list_of.Given as goal

abbrev pub invariant-loop-index : goal.invariant-loop-index
invariant-loop-index l = record {
  led : IsLed l.ways.items (λ k. k) l.index;
  long : length l.ways.items ≡ l.blocks;
  some : 1 ≤ l.index;
}
