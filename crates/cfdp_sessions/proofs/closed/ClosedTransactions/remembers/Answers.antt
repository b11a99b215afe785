use Rattle.std.proofs.Common.{◌≡◌, ℕ, ◌<◌, ◌≤◌, List, length, get_or, sym, ap, ◌∙◌, arith}
use Rattle.std.proofs.lemmas.Bool.{le-ltb}
use Rattle.cfdp_sessions.specs.Closed.{SourceFields, ClosedFields, has_number}
use Rattle.cfdp_sessions.specs.code.Closed.{source_index}
use Rattle.cfdp_sessions.proofs.SourceIndexes.{names_at, names_past}
use Rattle.cfdp_sessions.proofs.closed.ClosedTransactions.remembers.Goals as goal

pub returns-then-index-len : goal.returns-then-index-len
returns-then-index-len c =
    let ss = c.args.self.now.sources in
    let id = c.args.id in
    let v : c.self.inside.sources.items ≡ ss = ap (λ (C : ClosedFields). C.sources) c.self.view_is in
    let item = c.index.result.now in
    let within : source_index ss id.source < length ss =
    omega (arith, c.if-index-len.true, c.len.ensures, c.index_of-index.ensures, ap length v) in
    c.has.ensures
    ∙ ap (λ (n : SourceFields). has_number n id.number)
    (c.index.ensures
    ∙ ap (λ (xs : List SourceFields). get_or xs c.index_of-index.result item) v
    ∙ ap (λ (n : ℕ). get_or ss n item) c.index_of-index.ensures
    ∙ sym (names_at ss id.source item within))

pub returns-else-index-len : goal.returns-else-index-len
returns-else-index-len c =
    let ss = c.args.self.now.sources in
    let id = c.args.id in
    let v : c.self.inside.sources.items ≡ ss = ap (λ (C : ClosedFields). C.sources) c.self.view_is in
    let past : length ss ≤ source_index ss id.source =
    omega (arith, c.if-index-len.false, c.len.ensures, c.index_of-index.ensures, ap length v) in
    le-ltb c.index_of-index.result c.len.result c.if-index-len.false
    ∙ sym (ap (λ (n : SourceFields). has_number n id.number) (names_past ss id.source past))
