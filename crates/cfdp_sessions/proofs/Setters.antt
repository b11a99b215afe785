-- A change of the session at an index that keeps its name.
use Rattle.std.proofs.Common.{◌≡◌, ℕ, ◌<◌, List, length, get_or, Some, refl, sym, ap, subst, ◌∙◌, arith}
use Rattle.std.specs.Prelude.{slice_get, slice_set}
use Rattle.std.proofs.lemmas.Option.{same_Some, slice_get_read}
use Rattle.cfdp_sessions.specs.Sessions.{SessionFields, session_id, replaced, AreDistinct}
use Rattle.cfdp_sessions.proofs.Names.{replaced_distinct}
use Rattle.cfdp_sessions.proofs.Indexes.{set_replaced}

-- the names stay distinct, and the session of that name is replaced
pub changed :
    (change : SessionFields → SessionFields) → ((s : SessionFields) → session_id s ≡ session_id (change s)) →
    (items now : List SessionFields) (i : ℕ) (s old : SessionFields) →
    items ≡ now → s ≡ old → AreDistinct items → i < length now → old ≡ get_or items i old →
    AreDistinct (slice_set items i (change s))
    × ((session : SessionFields) → slice_get now i ≡ Some session → slice_set items i (change s) ≡ replaced now (change session))
changed change keeps items now i s old v e d here read =
    let at : slice_get items i ≡ Some old = slice_get_read items (length items) i old refl (omega (arith, here, ap length v)) read in
    let same : session_id old ≡ session_id (change s) = ap session_id (sym e) ∙ keeps s in
    let put : slice_set items i (change s) ≡ replaced items (change s) = set_replaced items i old (change s) d at same in (
      subst AreDistinct (sym put) (replaced_distinct items (change s) d),
      λ session there.
          let is : s ≡ session = e ∙ same_Some old session (sym at ∙ ap (λ (xs : List SessionFields). slice_get xs i) v ∙ there) in
          put ∙ ap (λ (xs : List SessionFields). replaced xs (change s)) v ∙ ap (λ (t : SessionFields). replaced now (change t)) is,
    )
