use Rattle.std.proofs.Common.{◌≡◌, ◌+◌, drop}
use Rattle.cfdp_sessions.specs.code.Sessions.{session_index}
use Rattle.cfdp_sessions.proofs.sessions.Sessions.index_of.Given as goal

abbrev pub invariant-loop-session : goal.invariant-loop-session
invariant-loop-session l = record {
  index : l.index ≡ l.session-index;
  rest : session_index l.session-items l.id ≡ l.session-index + session_index (drop l.session-index l.session-items) l.id;
}
