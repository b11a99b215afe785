use Rattle.std.specs.Prelude.{nat_lt}
use Rattle.std.proofs.Common.{◌≡◌, ℕ, length, sym, ap, ◌∙◌, arith}
use Rattle.cfdp_sessions.specs.Closed.{ClosedFields}
use Rattle.cfdp_sessions.specs.code.Closed.{source_index}
use Rattle.cfdp_sessions.proofs.SourceIndexes.{has_index}
use Rattle.cfdp_sessions.proofs.closed.ClosedTransactions.has_source.Goals as goal

pub returns : goal.returns
returns c =
    let ss = c.args.self.now.sources in
    let v : c.self.inside.sources.items ≡ ss = ap (λ (C : ClosedFields). C.sources) c.self.view_is in
    ap (λ (n : ℕ). nat_lt n c.len.result) c.index_of.ensures
    ∙ ap (nat_lt (source_index ss c.args.source)) (omega (arith, c.len.ensures, ap length v))
    ∙ sym (has_index ss c.args.source)
