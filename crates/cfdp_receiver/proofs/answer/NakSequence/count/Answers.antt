use Rattle.std.proofs.Common.{◌≡◌, ℕ, ◌+◌, ◌-◌, ◌/◌, List, length, sym, ap, ◌∙◌, arith}
use Rattle.cfdp_directives.specs.Reading.{NakFields}
use Rattle.cfdp_receiver.proofs.PdusByNumber.{counted}
use Rattle.cfdp_receiver.proofs.answer.NakSequence.count.Goals as goal

pub returns-clause-value : goal.returns-clause-value
returns-clause-value c =
    let s = c.self.inside in
    let less : c.saturating_sub.result ≡ length s.requests.items - 1 = omega arith in
    ap (λ (n : ℕ). 1 + n / s.most) less
    ∙ sym (counted s.header s.most s.low s.high s.requests.items c.self.invariant.most)
    ∙ ap (λ (xs : List NakFields). length xs) c.self.view_is
