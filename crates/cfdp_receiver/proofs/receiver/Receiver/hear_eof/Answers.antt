use Rattle.std.proofs.Common.{ℕ, refl, ap, ◌∙◌}
use Rattle.cfdp_receiver.specs.State.{EofPdu}
use Rattle.cfdp_receiver.specs.code.StateMachine.{Turns, at_moment}
use Rattle.cfdp_receiver.proofs.CallsAnswer.{moved}
use Rattle.cfdp_receiver.proofs.LateTurns.{turned}
use Rattle.cfdp_receiver.proofs.StaysWhole.{whole_turn}
use Rattle.cfdp_receiver.proofs.receiver.Receiver.hear_eof.Goals as goal
use Rattle.cfdp_receiver.proofs.receiver.Receiver.hear_eof.Goals.{After-eof}

as_it_came : (c : After-eof) → Turns (at_moment c.args.now c.args.self.now) c.eof.new.self c.eof.result (EofPdu c.args.now c.args.header.now c.args.eof)
as_it_came c =
    moved c.args.self.now c.later.new.self c.eof.new.self c.eof.result c.args.now (λ (n : ℕ). EofPdu n c.args.header.now c.args.eof) (λ R x y. refl)
    (λ R V rs x y. refl)
    (c.later.ensures ∙ ap (at_moment c.args.now) c.self.view_is) c.eof.ensures

pub invariant_of-self : goal.invariant_of-self
invariant_of-self c =
    whole_turn c.args.self.now c.eof.new.self c.eof.result (EofPdu c.args.now c.args.header.now c.args.eof) refl
    (c.stays_whole.ensures (EofPdu c.args.now c.args.header.now c.args.eof)) (as_it_came (goal.at.invariant_of-self c).After-eof)

pub returns : goal.returns
returns c = turned c.args.self.now c.eof.new.self c.eof.result (EofPdu c.args.now c.args.header.now c.args.eof) refl c.requires.timely
    (as_it_came (goal.at.returns c).After-eof)
