use Rattle.std.proofs.Common.{◌≡◌, ◌+◌, ◌≤◌, ◌++◌, length, drop}
use Rattle.cfdp_transactions.specs.Pieces.{with_range}
use Rattle.cfdp_transactions.specs.code.Pieces.{with_pending, pending_count}
use Rattle.cfdp_transactions.proofs.ranges.Ranges.joined.Given as goal

-- what was put, and what will be
abbrev pub invariant-loop-range : goal.invariant-loop-range
invariant-loop-range l = record {
  joined : l.joined.items ++ with_pending l.pending (drop l.range-index l.range-items) ≡ with_range l.fn.start l.fn.end l.range-items;
  few : length l.joined.items + pending_count l.pending ≤ l.range-index + 1;
}
