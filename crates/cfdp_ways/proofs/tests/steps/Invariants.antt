use Rattle.std.proofs.Common.{◌≡◌, ◌+◌, ◌≤◌}
use Rattle.cfdp_ways.proofs.tests.steps.Given as goal

abbrev pub invariant-loop-cursor : goal.invariant-loop-cursor
invariant-loop-cursor l = record {
  later : l.index ≤ l.cursor.index;
  there : l.cursor.block ≡ l.cursor.index;
  counted : l.steps + l.cursor.index ≤ l.from;
}

abbrev pub decreases-loop-cursor : goal.decreases-loop-cursor
decreases-loop-cursor l = l.cursor.index
