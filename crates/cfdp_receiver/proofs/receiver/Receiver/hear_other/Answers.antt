use Rattle.std.proofs.Common.{ℕ, refl, ap, ◌∙◌}
use Rattle.cfdp_receiver.specs.State.{OtherPdu}
use Rattle.cfdp_receiver.specs.code.StateMachine.{Turns, at_moment}
use Rattle.cfdp_receiver.proofs.CallsAnswer.{moved}
use Rattle.cfdp_receiver.proofs.LateTurns.{turned}
use Rattle.cfdp_receiver.proofs.StaysWhole.{whole_turn}
use Rattle.cfdp_receiver.proofs.receiver.Receiver.hear_other.Goals as goal
use Rattle.cfdp_receiver.proofs.receiver.Receiver.hear_other.Goals.{After-other}

as_it_came : (c : After-other) → Turns (at_moment c.args.now c.args.self.now) c.later.new.self c.other.result (OtherPdu c.args.now c.args.header.now)
as_it_came c =
    moved c.args.self.now c.later.new.self c.later.new.self c.other.result c.args.now (λ (n : ℕ). OtherPdu n c.args.header.now) (λ R x y. refl)
    (λ R V rs x y. refl)
    (c.later.ensures ∙ ap (at_moment c.args.now) c.self.view_is) c.other.ensures

pub invariant_of-self : goal.invariant_of-self
invariant_of-self c =
    whole_turn c.args.self.now c.later.new.self c.other.result (OtherPdu c.args.now c.args.header.now) refl
    (c.stays_whole.ensures (OtherPdu c.args.now c.args.header.now)) (as_it_came (goal.at.invariant_of-self c).After-other)

pub returns : goal.returns
returns c = turned c.args.self.now c.later.new.self c.other.result (OtherPdu c.args.now c.args.header.now) refl c.requires.timely
    (as_it_came (goal.at.returns c).After-other)
