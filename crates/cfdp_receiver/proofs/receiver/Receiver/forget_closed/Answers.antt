use Rattle.std.proofs.Common.{refl, sym, subst, ◌∙◌}
use Rattle.cfdp_receiver.specs.State.{ForgetAsked}
use Rattle.cfdp_receiver.specs.StateMachine.{StateMachineFields}
use Rattle.cfdp_receiver.specs.code.StateMachine.{Turns, at_moment}
use Rattle.cfdp_receiver.proofs.CallsAnswer.{at_no_moment, ended, whole_ended}
use Rattle.cfdp_receiver.proofs.LateTurns.{turned}
use Rattle.cfdp_receiver.proofs.OwnTime.{near_zero}
use Rattle.cfdp_receiver.proofs.StaysWhole.{whole_turn}
use Rattle.cfdp_receiver.proofs.receiver.Receiver.forget_closed.Goals as goal
use Rattle.cfdp_receiver.proofs.receiver.Receiver.forget_closed.Goals.{After-forget-answer}

as_it_came : (c : After-forget-answer) → Turns (at_moment 0 c.args.self.now) c.forget-answer.new.self c.forget-answer.result ForgetAsked
as_it_came c =
    subst (λ (M : StateMachineFields). Turns M c.forget-answer.new.self c.forget-answer.result ForgetAsked)
    (c.self.view_is ∙ sym (at_no_moment c.args.self.now)) c.forget-answer.ensures

pub invariant_of-self : goal.invariant_of-self
invariant_of-self c =
    let N = c.forget-answer.new.self in
    whole_ended N c.end_turn.new.self c.next_turn-turn.result c.end_turn.ensures.machine
    (whole_turn c.args.self.now N c.forget-answer.result ForgetAsked refl
    (c.stays_whole.ensures ForgetAsked) (as_it_came (goal.at.invariant_of-self c).After-forget-answer))

pub returns-clause-ok : goal.returns-clause-ok
returns-clause-ok c =
    let M = c.args.self.now in
    let N = c.forget-answer.new.self in
    ended M N c.end_turn.new.self c.forget-answer.result c.end_turn.result ForgetAsked c.next_turn-turn.result c.end_turn.ensures.machine
    c.end_turn.ensures.answer
    (turned M N c.forget-answer.result ForgetAsked refl (near_zero M.state)
    (as_it_came (goal.at.returns-clause-ok c).After-forget-answer))
