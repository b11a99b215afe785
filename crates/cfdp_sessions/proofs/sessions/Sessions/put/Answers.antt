use Rattle.std.proofs.Common.{◌≡◌, List, length, sym, ap, subst, ◌∙◌, arith}
use Rattle.std.specs.Prelude.{slice_set}
use Rattle.cfdp_sessions.specs.Sessions.{SessionFields, AreDistinct, session_id, replaced}
use Rattle.cfdp_sessions.specs.code.Sessions.{session_index}
use Rattle.cfdp_sessions.proofs.Names.{replaced_distinct}
use Rattle.cfdp_sessions.proofs.Indexes.{replaced_at, replaced_past}
use Rattle.cfdp_sessions.proofs.sessions.Sessions.put.Goals as goal

pub invariant_of-self : goal.invariant_of-self
invariant_of-self c =
    let now = c.args.self.now in
    let v : c.self.inside.list.items ≡ now = c.self.view_is in
    let index : c.index_of-index.result ≡ session_index now (session_id c.args.session) = c.index_of-index.ensures ∙ ap (session_index now) c.name.ensures in
    let put : slice_set c.self.inside.list.items c.index_of-index.result c.args.session ≡ replaced now c.args.session =
    ap (λ (xs : List SessionFields). slice_set xs c.index_of-index.result c.args.session) v
    ∙ ap (λ n. slice_set now n c.args.session) index
    ∙ replaced_at now c.args.session (omega (arith, c.if-index-len.true, c.len.ensures, index, ap length v)) in
    (c.self.invariant.0, c.self.invariant.1, subst AreDistinct (sym put) (replaced_distinct now c.args.session (subst AreDistinct v c.self.invariant.2)))

pub returns-then-index-len : goal.returns-then-index-len
returns-then-index-len c =
    let now = c.args.self.now in
    let v : c.self.inside.list.items ≡ now = c.self.view_is in
    let index : c.index_of-index.result ≡ session_index now (session_id c.args.session) = c.index_of-index.ensures ∙ ap (session_index now) c.name.ensures in
    ap (λ (xs : List SessionFields). slice_set xs c.index_of-index.result c.args.session) v
    ∙ ap (λ n. slice_set now n c.args.session) index
    ∙ replaced_at now c.args.session (omega (arith, c.if-index-len.true, c.len.ensures, index, ap length v))

pub returns-else-index-len : goal.returns-else-index-len
returns-else-index-len c =
    let now = c.args.self.now in
    let v : c.self.inside.list.items ≡ now = c.self.view_is in
    let index : c.index_of-index.result ≡ session_index now (session_id c.args.session) = c.index_of-index.ensures ∙ ap (session_index now) c.name.ensures in
    replaced_past now c.args.session (omega (arith, c.if-index-len.false, c.len.ensures, index, ap length v))
