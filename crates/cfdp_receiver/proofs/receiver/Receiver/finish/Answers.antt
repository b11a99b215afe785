use Rattle.std.proofs.Common.{◌≡◌, false, refl, sym, ap, subst, ◌∙◌}
use Rattle.cfdp_receiver.specs.State.{Finish}
use Rattle.cfdp_receiver.specs.StateMachine.{StateMachineFields}
use Rattle.cfdp_receiver.specs.Turning.{is_too_far}
use Rattle.cfdp_receiver.specs.code.StateMachine.{Turns, at_moment}
use Rattle.cfdp_receiver.proofs.CallsAnswer.{ended, whole_ended}
use Rattle.cfdp_receiver.proofs.LateTurns.{turned}
use Rattle.cfdp_receiver.proofs.StaysWhole.{whole_turn}
use Rattle.cfdp_receiver.proofs.receiver.Receiver.finish.Goals as goal
use Rattle.cfdp_receiver.proofs.receiver.Receiver.finish.Goals.{After-end_turn}

as_it_came : (c : After-end_turn) → Turns (at_moment c.args.now c.args.self.now) c.finish.new.self c.in_ok-answer.answer (Finish c.args.now)
as_it_came c =
    subst (λ (X : StateMachineFields). Turns (at_moment c.args.now X) c.finish.new.self c.in_ok-answer.answer (Finish c.args.now)) c.self.view_is
    c.in_ok-answer.ensures.ok

pub finish-requires : goal.finish-requires
finish-requires c = record { known = c.self.invariant.known; places = c.self.invariant.places }

pub invariant_of-self-2 : goal.invariant_of-self-2
invariant_of-self-2 c =
    let N = c.finish.new.self in
    whole_ended N c.end_turn.new.self c.next_turn-turn.result c.end_turn.ensures.machine
    (whole_turn c.args.self.now N c.in_ok-answer.answer (Finish c.args.now) refl (c.stays_whole.ensures (Finish c.args.now)) (as_it_came c))

pub returns-clause-ok : goal.returns-clause-ok
returns-clause-ok c =
    let M = c.args.self.now in
    let N = c.finish.new.self in
    let a = c.in_ok-answer.answer in
    let i = Finish c.args.now in
    let near : is_too_far M.state c.args.now ≡ false =
    sym (c.is_too_far.ensures ∙ ap (λ (m : StateMachineFields). is_too_far m.state c.args.now) c.self.view_is) ∙ c.if-is_too_far.false in
    ended M N c.end_turn.new.self a c.end_turn.result i c.next_turn-turn.result c.end_turn.ensures.machine c.end_turn.ensures.answer
    (turned M N a i refl near (as_it_came (goal.at.returns-clause-ok c).After-end_turn))
