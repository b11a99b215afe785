use Rattle.std.proofs.Common.{◌≡◌, drop}
use Rattle.cfdp_receiver.specs.Due.{first_over}
use Rattle.cfdp_receiver.proofs.state_machine.StateMachine.first_over.Given as goal

abbrev pub invariant-loop-index : goal.invariant-loop-index
invariant-loop-index l = first_over l.self.state.world l.self.state.sessions ≡ first_over l.self.state.world (drop l.index l.self.state.sessions)
