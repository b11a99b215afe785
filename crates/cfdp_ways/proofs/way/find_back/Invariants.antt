use Rattle.std.proofs.Common.{◌≡◌, ◌+◌, ◌≤◌, ℕ}
use Rattle.cfdp_ways.specs.Ways.{IsLed, IsOn}
use Rattle.cfdp_ways.proofs.way.find_back.Given as goal

abbrev pub invariant-loop-cursor : goal.invariant-loop-cursor
invariant-loop-cursor l = record {
  on : IsOn l.ways l.cursor;
  later : l.index ≤ l.cursor.index;
  nearer : l.cursor.index ≤ l.fn.from.index;
  block : (blocks : ℕ → ℕ) → IsLed l.ways blocks (l.fn.from.index + 1) → l.fn.from.block ≡ blocks l.fn.from.index → l.cursor.block ≡ blocks l.cursor.index;
}

abbrev pub decreases-loop-cursor : goal.decreases-loop-cursor
decreases-loop-cursor l = l.cursor.index
