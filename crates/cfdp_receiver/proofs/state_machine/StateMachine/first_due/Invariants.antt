use Rattle.std.proofs.Common.{◌≡◌, drop}
use Rattle.cfdp_receiver.specs.Due.{first_due}
use Rattle.cfdp_receiver.proofs.state_machine.StateMachine.first_due.Given as goal

-- no session before the index has a timer that is due
abbrev pub invariant-loop-index : goal.invariant-loop-index
invariant-loop-index l = first_due l.self.state (drop l.index l.self.state.sessions) ≡ first_due l.self.state l.self.state.sessions
