use Rattle.std.proofs.Common.{◌≡◌, ◌+◌, drop}
use Rattle.cfdp_sessions.specs.code.Closed.{source_index}
use Rattle.cfdp_sessions.proofs.closed.ClosedTransactions.index_of.Given as goal

abbrev pub invariant-loop-names : goal.invariant-loop-names
invariant-loop-names l = record {
  index : l.index ≡ l.names-index;
  rest : source_index l.names-items l.source ≡ l.names-index + source_index (drop l.names-index l.names-items) l.source;
}
