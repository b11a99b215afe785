use Rattle.std.proofs.Common.{◌≡◌, ℕ, ◌+◌, suc, sym, ap, ◌∙◌, arith, rules}
use Rattle.std.specs.Prelude.{true, false, drop}
use Rattle.cfdp_receiver.specs.Due.{first_over, is_over}
use Rattle.cfdp_receiver.specs.State.{At_over, at_of}
use Rattle.cfdp_receiver.proofs.Concluding.{over_at, over_later, not_over}
use Rattle.cfdp_receiver.proofs.state_machine.StateMachine.first_over.Goals as goal

pub returns-then-eq-clause-some : goal.returns-then-eq-clause-some
returns-then-eq-clause-some c =
    let R = c.args.self.now.state in
    let same : c.at.result ≡ At_over = search rules in
    let over : is_over (at_of R.world c.session.result.now) ≡ true = ap is_over (sym c.at.ensures ∙ same) in
    c.loop-index.invariant ∙ over_at R.world R.sessions c.loop-index.index c.session.result.now c.session.ensures over ∙ sym c.session.ensures

pub loop-index-preserved : goal.loop-index-preserved
loop-index-preserved c =
    let R = c.args.self.now.state in
    let i = c.loop-index.index in
    let other : c.at.result ≡ At_over → ⊥ = search rules in
    let over : is_over (at_of R.world c.session.result.now) ≡ false = ap is_over (sym c.at.ensures) ∙ not_over c.at.result other in
    let next : suc i ≡ i + 1 = omega arith in
    c.loop-index.invariant ∙ over_later R.world R.sessions i c.session.result.now c.session.ensures over
    ∙ ap (λ (n : ℕ). first_over R.world (drop n R.sessions)) next
