use Rattle.std.proofs.Common.{◌≡◌, ◌+◌, ◌≤◌, ◌++◌, take, drop, length}
use Rattle.cfdp_sessions.specs.Closed.{kept_sources}
use Rattle.cfdp_sessions.proofs.closed.ClosedTransactions.forget.Given as goal

abbrev pub invariant-loop-index : goal.invariant-loop-index
invariant-loop-index l = record {
  count : l.self-inside.sources.len + l.self-inside.free.len ≡ 16;
  places : 16 ≤ l.self-inside.sources.cap;
  room : 16 ≤ l.self-inside.free.cap;
  before : l.index ≤ length l.fn.self.sources;
  items : l.self-inside.sources.items
      ≡ take l.index l.fn.self.sources ++ kept_sources l.sessions (drop l.index l.fn.self.sources);
}

abbrev pub decreases-loop-index : goal.decreases-loop-index
decreases-loop-index l = l.index
