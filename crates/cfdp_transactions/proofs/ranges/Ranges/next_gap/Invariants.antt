use Rattle.std.proofs.Common.{drop}
use Rattle.cfdp_transactions.proofs.Received.RangeSteps.{IsSearched}
use Rattle.cfdp_transactions.proofs.ranges.Ranges.next_gap.Given as goal

abbrev pub invariant-loop-range : goal.invariant-loop-range
invariant-loop-range l = IsSearched l.range-items l.from l.at (drop l.range-index l.range-items)
