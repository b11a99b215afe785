use Rattle.std.proofs.Common.{ℕ, refl, ap, ◌∙◌}
use Rattle.cfdp_receiver.specs.State.{PromptPdu}
use Rattle.cfdp_receiver.specs.code.StateMachine.{Turns, at_moment}
use Rattle.cfdp_receiver.proofs.CallsAnswer.{moved}
use Rattle.cfdp_receiver.proofs.LateTurns.{turned}
use Rattle.cfdp_receiver.proofs.StaysWhole.{whole_turn}
use Rattle.cfdp_receiver.proofs.receiver.Receiver.hear_prompt.Goals as goal
use Rattle.cfdp_receiver.proofs.receiver.Receiver.hear_prompt.Goals.{After-prompt}

as_it_came : (c : After-prompt) → Turns (at_moment c.args.now c.args.self.now) c.prompt.new.self c.prompt.result
    (PromptPdu c.args.now c.args.header.now c.args.prompt)
as_it_came c =
    moved c.args.self.now c.later.new.self c.prompt.new.self c.prompt.result c.args.now (λ (n : ℕ). PromptPdu n c.args.header.now c.args.prompt) (λ R x y. refl)
    (λ R V rs x y. refl)
    (c.later.ensures ∙ ap (at_moment c.args.now) c.self.view_is) c.prompt.ensures

pub invariant_of-self : goal.invariant_of-self
invariant_of-self c =
    whole_turn c.args.self.now c.prompt.new.self c.prompt.result (PromptPdu c.args.now c.args.header.now c.args.prompt) refl
    (c.stays_whole.ensures (PromptPdu c.args.now c.args.header.now c.args.prompt)) (as_it_came (goal.at.invariant_of-self c).After-prompt)

pub returns : goal.returns
returns c = turned c.args.self.now c.prompt.new.self c.prompt.result (PromptPdu c.args.now c.args.header.now c.args.prompt) refl c.requires.timely
    (as_it_came (goal.at.returns c).After-prompt)
