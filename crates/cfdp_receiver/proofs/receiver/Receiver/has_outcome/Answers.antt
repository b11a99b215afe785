use Rattle.std.proofs.Common.{ap, ◌∙◌}
use Rattle.std.specs.Prelude.{is_some}
use Rattle.cfdp_receiver.specs.Due.{first_over}
use Rattle.cfdp_receiver.specs.StateMachine.{StateMachineFields}
use Rattle.cfdp_receiver.proofs.CallsAnswer.{some_there}
use Rattle.cfdp_receiver.proofs.receiver.Receiver.has_outcome.Goals as goal

pub returns : goal.returns
returns c =
    let R = c.self.inside.machine.state in
    let e = c.first_over.ensures in
    c.is_some.ensures ∙ some_there c.first_over.result R.sessions (first_over R.world R.sessions) e.some e.here e.none
    ∙ ap (λ (M : StateMachineFields). is_some (first_over M.state.world M.state.sessions)) c.self.view_is
