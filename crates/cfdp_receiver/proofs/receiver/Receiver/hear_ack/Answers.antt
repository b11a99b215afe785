use Rattle.std.proofs.Common.{ℕ, refl, ap, ◌∙◌}
use Rattle.cfdp_receiver.specs.State.{AckPdu}
use Rattle.cfdp_receiver.specs.code.StateMachine.{Turns, at_moment}
use Rattle.cfdp_receiver.proofs.CallsAnswer.{moved}
use Rattle.cfdp_receiver.proofs.LateTurns.{turned}
use Rattle.cfdp_receiver.proofs.StaysWhole.{whole_turn}
use Rattle.cfdp_receiver.proofs.receiver.Receiver.hear_ack.Goals as goal
use Rattle.cfdp_receiver.proofs.receiver.Receiver.hear_ack.Goals.{After-ack}

as_it_came : (c : After-ack) → Turns (at_moment c.args.now c.args.self.now) c.ack.new.self c.ack.result (AckPdu c.args.now c.args.header.now c.args.ack)
as_it_came c =
    moved c.args.self.now c.later.new.self c.ack.new.self c.ack.result c.args.now (λ (n : ℕ). AckPdu n c.args.header.now c.args.ack) (λ R x y. refl)
    (λ R V rs x y. refl)
    (c.later.ensures ∙ ap (at_moment c.args.now) c.self.view_is) c.ack.ensures

pub invariant_of-self : goal.invariant_of-self
invariant_of-self c =
    whole_turn c.args.self.now c.ack.new.self c.ack.result (AckPdu c.args.now c.args.header.now c.args.ack) refl
    (c.stays_whole.ensures (AckPdu c.args.now c.args.header.now c.args.ack)) (as_it_came (goal.at.invariant_of-self c).After-ack)

pub returns : goal.returns
returns c = turned c.args.self.now c.ack.new.self c.ack.result (AckPdu c.args.now c.args.header.now c.args.ack) refl c.requires.timely
    (as_it_came (goal.at.returns c).After-ack)
