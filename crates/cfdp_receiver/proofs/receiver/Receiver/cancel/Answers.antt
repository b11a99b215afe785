use Rattle.std.proofs.Common.{ℕ, refl, sym, ap, ◌∙◌}
use Rattle.cfdp_receiver.specs.State.{CancelAsked}
use Rattle.cfdp_receiver.specs.StateMachine.{StateMachineFields}
use Rattle.cfdp_receiver.specs.Turning.{is_too_far}
use Rattle.cfdp_receiver.specs.code.StateMachine.{Turns, at_moment}
use Rattle.cfdp_receiver.proofs.CallsAnswer.{moved, ended, whole_ended}
use Rattle.cfdp_receiver.proofs.LateTurns.{turned}
use Rattle.cfdp_receiver.proofs.StaysWhole.{whole_turn}
use Rattle.cfdp_receiver.proofs.receiver.Receiver.cancel.Goals as goal
use Rattle.cfdp_receiver.proofs.receiver.Receiver.cancel.Goals.{After-cancel-answer}

as_it_came : (c : After-cancel-answer) → Turns (at_moment c.args.now c.args.self.now) c.cancel-answer.new.self c.cancel-answer.result
    (CancelAsked c.args.now c.args.id)
as_it_came c =
    moved c.args.self.now c.later.new.self c.cancel-answer.new.self c.cancel-answer.result c.args.now
    (λ (n : ℕ). CancelAsked n c.args.id) (λ R x y. refl) (λ R V rs x y. refl)
    (c.later.ensures ∙ ap (at_moment c.args.now) c.self.view_is) c.cancel-answer.ensures

pub invariant_of-self-2 : goal.invariant_of-self-2
invariant_of-self-2 c =
    let N = c.cancel-answer.new.self in
    whole_ended N c.end_turn.new.self c.next_turn-turn.result c.end_turn.ensures.machine
    (whole_turn c.args.self.now N c.cancel-answer.result (CancelAsked c.args.now c.args.id) refl
    (c.stays_whole.ensures (CancelAsked c.args.now c.args.id)) (as_it_came (goal.at.invariant_of-self-2 c).After-cancel-answer))

pub returns-clause-ok : goal.returns-clause-ok
returns-clause-ok c =
    let M = c.args.self.now in
    let N = c.cancel-answer.new.self in
    ended M N c.end_turn.new.self c.cancel-answer.result c.end_turn.result (CancelAsked c.args.now c.args.id) c.next_turn-turn.result
    c.end_turn.ensures.machine
    c.end_turn.ensures.answer
    (turned M N c.cancel-answer.result (CancelAsked c.args.now c.args.id) refl
    (sym (c.is_too_far.ensures ∙ ap (λ (m : StateMachineFields). is_too_far m.state c.args.now) c.self.view_is) ∙ c.if-is_too_far.false)
    (as_it_came (goal.at.returns-clause-ok c).After-cancel-answer))
