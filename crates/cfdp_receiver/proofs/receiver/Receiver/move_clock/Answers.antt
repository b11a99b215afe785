use Rattle.std.proofs.Common.{◌≡◌, ap, ◌∙◌}
use Rattle.cfdp_receiver.specs.State.{ClockMoved}
use Rattle.cfdp_receiver.specs.StateMachine.{StateMachineFields}
use Rattle.cfdp_receiver.proofs.CallsAnswer.{clocked, ended, moves_clock, moves_whole, whole_ended}
use Rattle.cfdp_receiver.proofs.receiver.Receiver.move_clock.Goals as goal
use Rattle.cfdp_receiver.proofs.receiver.Receiver.move_clock.Goals.{After-move_clock-answer}

moved : (c : After-move_clock-answer) → c.move_clock-answer.new.self ≡ clocked c.args.self.now c.args.now
moved c = c.move_clock-answer.ensures.state ∙ ap (λ (M : StateMachineFields). clocked M c.args.now) c.self.view_is

pub invariant_of-self : goal.invariant_of-self
invariant_of-self c =
    let N = c.move_clock-answer.new.self in
    whole_ended N c.end_turn.new.self c.next_turn-turn.result c.end_turn.ensures.machine
    (moves_whole c.args.self.now N c.args.now (c.stays_whole.ensures (ClockMoved c.args.now))
    (moved (goal.at.invariant_of-self c).After-move_clock-answer))

pub returns-clause-ok : goal.returns-clause-ok
returns-clause-ok c =
    let M = c.args.self.now in
    let N = c.move_clock-answer.new.self in
    let m = c.move_clock-answer in
    ended M N c.end_turn.new.self m.result c.end_turn.result (ClockMoved c.args.now) c.next_turn-turn.result c.end_turn.ensures.machine
    c.end_turn.ensures.answer
    (moves_clock M N m.result c.args.now (moved (goal.at.returns-clause-ok c).After-move_clock-answer) m.ensures.answer)
