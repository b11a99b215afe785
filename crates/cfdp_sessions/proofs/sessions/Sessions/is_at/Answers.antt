use Rattle.std.proofs.Common.{◌≡◌, List, length, Some, refl, sym, ap, subst, ◌∙◌, arith}
use Rattle.std.specs.Prelude.{slice_get}
use Rattle.std.proofs.lemmas.Option.{slice_get_read}
use Rattle.cfdp_sessions.specs.Sessions.{SessionFields, AreDistinct, session_id}
use Rattle.cfdp_sessions.proofs.Indexes.{index_here}
use Rattle.cfdp_sessions.proofs.sessions.Sessions.is_at.Goals as goal
use Rattle.cfdp_leases.proofs.Admitted.{same_is}

pub returns-then-index-len : goal.returns-then-index-len
returns-then-index-len c same =
    let session = c.index.result.now in
    let items = c.self.inside.list.items in
    let here : slice_get items c.args.index ≡ Some session =
    slice_get_read items (length items) c.args.index session refl (omega (arith, c.if-index-len.true, c.len.ensures)) c.index.ensures in
    let at = ap (λ (xs : List SessionFields). slice_get xs c.args.index) (sym c.self.view_is) ∙ here in
    index_here c.args.self.now c.args.index session c.args.id (subst AreDistinct c.self.view_is c.self.invariant.2) at
    (same_is (session_id session) c.args.id (sym c.has_name.ensures ∙ same))
