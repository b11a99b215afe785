use Rattle.std.proofs.Common.{◌≡◌, ◌≤◌, []}
use Rattle.cfdp_sessions.proofs.closed.ClosedTransactions.new.Given as goal

abbrev pub invariant-loop : goal.invariant-loop
invariant-loop l = record {
  count : l.free.len ≡ l.counter;
  room : 16 ≤ l.free.cap;
  none : l.sources.items ≡ [];
  empty : l.sources.len ≡ 0;
  places : 16 ≤ l.sources.cap;
}
