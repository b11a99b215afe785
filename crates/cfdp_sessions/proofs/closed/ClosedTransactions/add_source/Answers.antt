use Rattle.std.proofs.Common.{◌≡◌, Bool, List, [], ◌∷◌, ◌++◌, sym, ap, ◌∙◌}
use Rattle.cfdp_sessions.specs.Closed.{SourceFields, ClosedFields, no_names, names_in, put_names}
use Rattle.cfdp_sessions.proofs.SourceIndexes.{fields, put_same, put_new}
use Rattle.cfdp_sessions.proofs.closed.ClosedTransactions.add_source.Goals as goal

pub returns-then-has_source : goal.returns-then-has_source
returns-then-has_source c =
    let now = c.args.self.now in
    sym (ap (λ (xs : List SourceFields). fields xs now.forgot)
    (put_same now.sources c.args.source (sym c.has_source.ensures ∙ c.if-has_source.true)))

pub returns : goal.returns
returns c =
    let now = c.args.self.now in
    let source = c.args.source in
    let v : c.self.inside.sources.items ≡ now.sources = ap (λ (C : ClosedFields). C.sources) c.self.view_is in
    let f : c.self.inside.forgot ≡ now.forgot = ap (λ (C : ClosedFields). C.forgot) c.self.view_is in
    let same =
    c.push_reserved.ensures.items
    ∙ ap (λ (n : SourceFields). c.self.inside.sources.items ++ n ∷ []) c.begin.ensures
    ∙ ap (λ (xs : List SourceFields). xs ++ no_names source ∷ []) v
    ∙ sym (put_new now.sources source (sym c.has_source.ensures ∙ c.if-has_source.false)) in
    ap (λ (xs : List SourceFields). fields xs c.self.inside.forgot) same
    ∙ ap (λ (b : Bool). fields (put_names now.sources (names_in now.sources source)) b) f
