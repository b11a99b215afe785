-- The source of each session has a place.
use Rattle.std.proofs.Common.{◌≡◌, inl, inr, ℕ, true, ◌==◌, List, [], ◌∷◌, ◌++◌, Option, Some, None, refl, sym, ap, subst, ◌∙◌}
use Rattle.std.specs.Prelude.{slice_get}
use Rattle.std.proofs.lemmas.Bool.{cases_Bool, and_parts, or_left, or_right}
use Rattle.std.proofs.lemmas.Option.{none-some}
use Rattle.cfdp_status.specs.declared.transaction.TransactionId.{TransactionId}
use Rattle.cfdp_leases.specs.Leases.{is_same}
use Rattle.cfdp_leases.proofs.Admitted.{same_is}
use Rattle.cfdp_sessions.specs.Closed.{ClosedFields, has_source, with_source, with_closed, most_closed, has_session_of, forgotten}
use Rattle.cfdp_sessions.specs.Sessions.{SessionFields, session_id, found, replaced, without_session}
use Rattle.cfdp_sessions.proofs.ClosedNames.{source_added, source_stays, source_named, forgotten_has}
use Rattle.cfdp_sessions.proofs.Indexes.{found_by_name}
use Rattle.cfdp_sessions.proofs.Names.{replaced_none, without_none, added_other}
use Rattle.cfdp_transactions.proofs.Options.{chosen_some}
use Rattle.cfdp_receiver.specs.State.{State}
use Rattle.cfdp_receiver.specs.code.StateMachine.{HavePlaces}
use Rattle.cfdp_receiver.specs.Turning as Turning
use Rattle.cfdp_receiver.proofs.TurnShapes.{Shape, Plainly, Keeps, Puts, Adds, Closes, Forgets}

abbrev pub Places : List SessionFields → ClosedFields → Type 0
Places ss c = (id : TransactionId) (s : SessionFields) → found ss id ≡ Some s → has_source c id.source ≡ true

-- that of a session at an index
pub place_at : (R : State) (i : ℕ) (s : SessionFields) → HavePlaces R → slice_get R.sessions i ≡ Some s → has_source R.closed s.header.source ≡ true
place_at R i s places at =
    let f = found_by_name R.sessions i s at in
    places (session_id s) f.0 f.1

-- what is found after a change was found before
before_by : (o : Option SessionFields) (Q : Type 0) → (o ≡ None → Q) → ((t : SessionFields) → o ≡ Some t → Q) → Q
before_by None Q none some = none refl
before_by (Some t) Q none some = some t refl

places_put : (ss : List SessionFields) (new : SessionFields) (c : ClosedFields) → Places ss c → Places (replaced ss new) c
places_put ss new c places id s e =
    before_by (found ss id) (has_source c id.source ≡ true)
    (λ none. absurd (none-some s (sym (replaced_none ss new id none) ∙ e))) (λ t here. places id t here)

places_without : (ss : List SessionFields) (n : TransactionId) (c : ClosedFields) → Places ss c → Places (without_session ss n) c
places_without ss n c places id s e =
    before_by (found ss id) (has_source c id.source ≡ true)
    (λ none. absurd (none-some s (sym (without_none ss n id none) ∙ e))) (λ t here. places id t here)

places_add : (ss : List SessionFields) (new : SessionFields) (c : ClosedFields) → Places ss c →
    Places (ss ++ new ∷ []) (with_source c new.header.source)
places_add ss new c places id s e = elim (cases_Bool (is_same (session_id new) id)) [
  | inl same ↦
      ap (λ (n : TransactionId). has_source (with_source c new.header.source) n.source) (sym (same_is (session_id new) id same))
      ∙ source_added c new.header.source
  | inr other ↦ source_stays c new.header.source id.source (places id s (sym (added_other ss new id other) ∙ e))
]

places_named : (ss : List SessionFields) (c : ClosedFields) (t : SessionFields) → Places ss c → Places ss (with_closed c t)
places_named ss c t places id s e = source_named c (most_closed t.header) t.has_changed (session_id t) id.source (places id s e)

of_source : (ss : List SessionFields) (id : TransactionId) (s : SessionFields) → found ss id ≡ Some s → has_session_of ss id.source ≡ true
of_source [] id s e = absurd cc
of_source (x ∷ xs) id s e = elim (chosen_some (is_same (session_id x) id) x s (found xs id) e) [
  | inl h ↦
      or_left (x.header.source == id.source) (has_session_of xs id.source)
      (and_parts (x.header.source == id.source) (x.header.number == id.number) h.0).0
  | inr h ↦ or_right (x.header.source == id.source) (has_session_of xs id.source) (of_source xs id s h.1)
]

places_kept : (ss : List SessionFields) (c : ClosedFields) → Places ss c → Places ss (forgotten c ss)
places_kept ss c places id s e = forgotten_has c ss id.source (of_source ss id s e) (places id s e)

pub places_by : (R : State) (t : TransactionId) (p : Turning.Parts) → Shape R t p → Places R.sessions R.closed → Places p.sessions p.closed
places_by R t p (Plainly (Keeps a e)) places = subst (λ (q : Turning.Parts). Places q.sessions q.closed) (sym e) places
places_by R t p (Plainly (Puts s a name e)) places =
    subst (λ (q : Turning.Parts). Places q.sessions q.closed) (sym e) (places_put R.sessions s R.closed places)
places_by R t p (Plainly (Adds s a name free new e)) places =
    subst (λ (q : Turning.Parts). Places q.sessions q.closed) (sym e) (places_add R.sessions s R.closed places)
places_by R t p (Plainly (Closes s a name was e)) places =
    subst (λ (q : Turning.Parts). Places q.sessions q.closed) (sym e)
    (places_without R.sessions (session_id s) (with_closed R.closed s) (places_named R.sessions R.closed s places))
places_by R t p (Forgets a e) places =
    subst (λ (q : Turning.Parts). Places q.sessions q.closed) (sym e) (places_kept R.sessions R.closed places)
