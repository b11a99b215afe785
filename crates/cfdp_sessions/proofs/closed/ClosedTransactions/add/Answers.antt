use Rattle.std.specs.Prelude.{slice_set, nat_le}
use Rattle.std.proofs.Common.{◌≡◌, ℕ, ◌+◌, Bool, ◌||◌, List, length, get_or, sym, ap, ◌∙◌, arith}
use Rattle.std.proofs.lemmas.Bool.{or_left}
use Rattle.cfdp_sessions.specs.Closed.{SourceFields, ClosedFields, names_in, put_names, with_number, is_crowded}
use Rattle.cfdp_sessions.specs.code.Closed.{source_index}
use Rattle.cfdp_sessions.proofs.ClosedNames.{name_source}
use Rattle.cfdp_sessions.proofs.SourceIndexes.{fields, here, names_at, put_at}
use Rattle.cfdp_sessions.proofs.closed.ClosedTransactions.add.Goals.{then-self, else-self}
use Rattle.cfdp_sessions.proofs.closed.ClosedTransactions.add.Goals as goal

pub index_mut-names-requires : goal.index_mut-names-requires
index_mut-names-requires c =
    let now = c.args.self.now in
    let v : c.self.inside.sources.items ≡ now.sources = ap (λ (C : ClosedFields). C.sources) c.self.view_is in
    omega (arith, here now.sources c.args.id.source c.requires.here, c.index_of-index.ensures, ap length v)

pub returns : goal.returns
returns c =
    let now = c.args.self.now in
    let id = c.args.id in
    let within = here now.sources id.source c.requires.here in
    let v : c.self.inside.sources.items ≡ now.sources = ap (λ (C : ClosedFields). C.sources) c.self.view_is in
    let f : c.self.inside.forgot ≡ now.forgot = ap (λ (C : ClosedFields). C.forgot) c.self.view_is in
    let item = c.index_mut-names.result.now in
    let index = c.index_of-index.result in
    let at : item ≡ names_in now.sources id.source =
    c.index_mut-names.ensures.value
    ∙ ap (λ (xs : List SourceFields). get_or xs index item) v
    ∙ ap (λ (n : ℕ). get_or now.sources n item) c.index_of-index.ensures
    ∙ sym (names_at now.sources id.source item within) in
    let new = with_number c.args.most c.args.has_changed id.number (names_in now.sources id.source) in
    let named : c.add.new.self ≡ new =
    c.add.ensures ∙ ap (with_number c.args.most c.args.has_changed id.number) at in
    let forgot : c.if-self.self ≡ (now.forgot || is_crowded c.args.most (names_in now.sources id.source)) =
    elim c.if-self.branch [
      | then-self w ↦
          w.self-is ∙ w.if-self.true
          ∙ sym (or_left now.forgot (is_crowded c.args.most (names_in now.sources id.source)) (sym f ∙ w.if-self.true))
      | else-self w ↦
          w.self-is
          ∙ ap (nat_le c.args.most) (w.len.ensures ∙ ap (λ (n : SourceFields). length n.changed + length n.idle) at)
          ∙ ap (λ (b : Bool). b || is_crowded c.args.most (names_in now.sources id.source)) (sym (sym f ∙ w.if-self.false))
    ] in
    ap (λ (xs : List SourceFields). fields (slice_set xs index c.add.new.self) c.if-self.self) v
    ∙ ap (λ (n : ℕ). fields (slice_set now.sources n c.add.new.self) c.if-self.self) c.index_of-index.ensures
    ∙ ap (λ (n : SourceFields). fields (slice_set now.sources (source_index now.sources id.source) n) c.if-self.self) named
    ∙ ap (λ (xs : List SourceFields). fields xs c.if-self.self)
    (put_at now.sources new id.source (name_source now c.args.most c.args.has_changed id) within)
    ∙ ap (fields (put_names now.sources new)) forgot
