use Rattle.std.proofs.Common.{ℕ, refl, sym, ap, ◌∙◌}
use Rattle.cfdp_receiver.specs.State.{Expire}
use Rattle.cfdp_receiver.specs.StateMachine.{StateMachineFields}
use Rattle.cfdp_receiver.specs.Turning.{is_too_far}
use Rattle.cfdp_receiver.specs.code.StateMachine.{Turns, at_moment}
use Rattle.cfdp_receiver.proofs.CallsAnswer.{moved, ended, whole_ended}
use Rattle.cfdp_receiver.proofs.LateTurns.{turned}
use Rattle.cfdp_receiver.proofs.StaysWhole.{whole_turn}
use Rattle.cfdp_receiver.proofs.receiver.Receiver.expire.Goals as goal
use Rattle.cfdp_receiver.proofs.receiver.Receiver.expire.Goals.{After-expire-answer}

as_it_came : (c : After-expire-answer) → Turns (at_moment c.args.now c.args.self.now) c.expire-answer.new.self c.expire-answer.result (Expire c.args.now)
as_it_came c =
    moved c.args.self.now c.later.new.self c.expire-answer.new.self c.expire-answer.result c.args.now
    (λ (n : ℕ). Expire n) (λ R x y. refl) (λ R V rs x y. refl)
    (c.later.ensures ∙ ap (at_moment c.args.now) c.self.view_is) c.expire-answer.ensures

pub invariant_of-self-2 : goal.invariant_of-self-2
invariant_of-self-2 c =
    let N = c.expire-answer.new.self in
    whole_ended N c.end_turn.new.self c.next_turn-turn.result c.end_turn.ensures.machine
    (whole_turn c.args.self.now N c.expire-answer.result (Expire c.args.now) refl
    (c.stays_whole.ensures (Expire c.args.now)) (as_it_came (goal.at.invariant_of-self-2 c).After-expire-answer))

pub returns-clause-ok : goal.returns-clause-ok
returns-clause-ok c =
    let M = c.args.self.now in
    let N = c.expire-answer.new.self in
    ended M N c.end_turn.new.self c.expire-answer.result c.end_turn.result (Expire c.args.now) c.next_turn-turn.result c.end_turn.ensures.machine
    c.end_turn.ensures.answer
    (turned M N c.expire-answer.result (Expire c.args.now) refl
    (sym (c.is_too_far.ensures ∙ ap (λ (m : StateMachineFields). is_too_far m.state c.args.now) c.self.view_is) ∙ c.if-is_too_far.false)
    (as_it_came (goal.at.returns-clause-ok c).After-expire-answer))
