use Rattle.std.proofs.Common.{ap, ◌∙◌}
use Rattle.cfdp_status.specs.declared.transaction.TransactionId.{TransactionId}
use Rattle.cfdp_sessions.specs.Closed.{has_source}
use Rattle.cfdp_receiver.specs.StateMachine.{StateMachineFields}
use Rattle.cfdp_receiver.proofs.state_machine.StateMachine.close.Goals as goal

pub add-requires-clause-here : goal.add-requires-clause-here
add-requires-clause-here c =
    let s = c.session-session.result.now in
    ap (λ (n : TransactionId). has_source c.self.inside.closed n.source) c.name-id.ensures
    ∙ ap (λ (X : StateMachineFields). has_source X.state.closed s.header.source) c.self.view_is
    ∙ c.requires.place s c.session-session.ensures
