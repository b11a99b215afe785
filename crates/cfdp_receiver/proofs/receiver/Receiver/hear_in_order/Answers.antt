use Rattle.std.proofs.Common.{ℕ, refl, ap, ◌∙◌}
use Rattle.cfdp_receiver.specs.State.{DataPdu}
use Rattle.cfdp_receiver.specs.code.StateMachine.{Turns, at_moment}
use Rattle.cfdp_receiver.proofs.CallsAnswer.{moved}
use Rattle.cfdp_receiver.proofs.LateTurns.{turned}
use Rattle.cfdp_receiver.proofs.StaysWhole.{whole_turn}
use Rattle.cfdp_receiver.proofs.receiver.Receiver.hear_in_order.Goals as goal
use Rattle.cfdp_receiver.proofs.receiver.Receiver.hear_in_order.Goals.{After-keeps}

as_it_came : (c : After-keeps) → Turns (at_moment c.args.now c.args.self.now) c.keeps.new.self c.keeps.result
    (DataPdu c.args.now c.args.header.now c.args.piece.now)
as_it_came c =
    moved c.args.self.now c.later.new.self c.keeps.new.self c.keeps.result c.args.now (λ (n : ℕ). DataPdu n c.args.header.now c.args.piece.now) (λ R x y. refl)
    (λ R V rs x y. refl)
    (c.later.ensures ∙ ap (at_moment c.args.now) c.self.view_is) c.keeps.ensures.ok

pub invariant_of-self : goal.invariant_of-self
invariant_of-self c =
    whole_turn c.args.self.now c.keeps.new.self c.keeps.result (DataPdu c.args.now c.args.header.now c.args.piece.now) refl
    (c.stays_whole.ensures (DataPdu c.args.now c.args.header.now c.args.piece.now)) (as_it_came (goal.at.invariant_of-self c).After-keeps)

pub returns-clause-ok : goal.returns-clause-ok
returns-clause-ok c = turned c.args.self.now c.keeps.new.self c.keeps.result (DataPdu c.args.now c.args.header.now c.args.piece.now) refl c.requires.timely
    (as_it_came (goal.at.returns-clause-ok c).After-keeps)
