use Rattle.std.proofs.Common.{◌≡◌, ◌≤◌, ◌++◌, length, drop}
use Rattle.cfdp_transactions.specs.Pieces.{between}
use Rattle.cfdp_transactions.proofs.ranges.Ranges.gaps.Given as goal

abbrev pub invariant-loop-range : goal.invariant-loop-range
invariant-loop-range l = record {
  gaps : l.gaps.items ++ between l.at (drop l.range-index l.range-items) l.limit ≡ between 0 l.range-items l.limit;
  few : length l.gaps.items ≤ l.range-index;
}
