-- No two sessions have one name, and none that of a transaction that is closed.
use Rattle.std.proofs.Common.{◌≡◌, inl, inr, true, List, [], ◌∷◌, None, refl, sym, ap, subst, ◌∙◌}
use Rattle.std.proofs.lemmas.Bool.{cases_Bool, both_ways, false≢true}
use Rattle.cfdp_status.specs.declared.transaction.TransactionId.{TransactionId}
use Rattle.cfdp_leases.specs.Leases.{is_same}
use Rattle.cfdp_sessions.specs.Closed.{ClosedFields, remembers, most_closed}
use Rattle.cfdp_sessions.specs.Sessions.{SessionFields, session_id, found, without_session, AreDistinct}
use Rattle.cfdp_sessions.proofs.ClosedNames.{remembered_is, source_remembers, forgotten_none}
use Rattle.cfdp_sessions.proofs.Names.{replaced_none, replaced_distinct, added_other, added_distinct, without_none, without_distinct, gone}
use Rattle.cfdp_receiver.specs.State.{State, begin, Input, now_of, is_closed}
use Rattle.cfdp_receiver.specs.Handing as Handing
use Rattle.cfdp_receiver.specs.Turning as Turning
use Rattle.cfdp_receiver.specs.Laws.{touched, ClosedIsOver, SessionsAreDistinct}
use Rattle.cfdp_receiver.proofs.TurnShapes.{Shape, Plainly, Keeps, Puts, Adds, Closes, Forgets, shape}
use Rattle.cfdp_leases.proofs.Admitted.{same_is}

-- what is true at all times
pub record Apart (sessions : List SessionFields) (closed : ClosedFields) : Type 0 where
  pub distinct : AreDistinct sessions
  pub over : (id : TransactionId) → remembers closed id ≡ true → found sessions id ≡ None

pub apart_by : (R : State) (t : TransactionId) (p : Turning.Parts) → Shape R t p → Apart R.sessions R.closed → Apart p.sessions p.closed
apart_by R t p (Plainly (Keeps a e)) apart = subst (λ (q : Turning.Parts). Apart q.sessions q.closed) (sym e) apart
apart_by R t p (Plainly (Puts s a name e)) apart = subst (λ (q : Turning.Parts). Apart q.sessions q.closed) (sym e) (record {
  distinct = replaced_distinct R.sessions s apart.distinct;
  over = λ id closed. replaced_none R.sessions s id (apart.over id closed);
})
apart_by R t p (Plainly (Adds s a name free new e)) apart = subst (λ (q : Turning.Parts). Apart q.sessions q.closed) (sym e) (record {
  distinct = added_distinct R.sessions s apart.distinct (ap (found R.sessions) name ∙ free);
  over = λ id closed.
      let before : remembers R.closed id ≡ true = sym (source_remembers R.closed s.header.source id) ∙ closed in
      elim (cases_Bool (is_same (session_id s) id)) [
        | inl same ↦ absurd (both_ways (is_closed R t) new (ap (is_closed R) (sym name ∙ same_is (session_id s) id same) ∙ before))
        | inr other ↦ added_other R.sessions s id other ∙ apart.over id before
      ];
})
apart_by R t p (Plainly (Closes s a name was e)) apart = subst (λ (q : Turning.Parts). Apart q.sessions q.closed) (sym e) (record {
  distinct = without_distinct R.sessions (session_id s) apart.distinct;
  over = λ id closed. elim (remembered_is R.closed (most_closed s.header) s.has_changed (session_id s) id closed) [
    | inl same ↦
        ap (λ (n : TransactionId). found (without_session R.sessions (session_id s)) n) (sym (same_is (session_id s) id same))
        ∙ gone R.sessions (session_id s) apart.distinct
    | inr before ↦ without_none R.sessions (session_id s) id (apart.over id before)
  ];
})
apart_by R t p (Forgets a e) apart =
    subst (λ (q : Turning.Parts). Apart q.sessions q.closed) (sym e)
    (record {
      distinct = apart.distinct;
      over = λ id closed. absurd (false≢true (sym (forgotten_none R.closed R.sessions id) ∙ closed));
    })

distinct_by : (R : State) (t : TransactionId) (p : Turning.Parts) → Shape R t p → AreDistinct R.sessions → AreDistinct p.sessions
distinct_by R t p (Plainly (Keeps a e)) d = subst (λ (q : Turning.Parts). AreDistinct q.sessions) (sym e) d
distinct_by R t p (Plainly (Puts s a name e)) d = subst (λ (q : Turning.Parts). AreDistinct q.sessions) (sym e) (replaced_distinct R.sessions s d)
distinct_by R t p (Plainly (Adds s a name free new e)) d =
    subst (λ (q : Turning.Parts). AreDistinct q.sessions) (sym e) (added_distinct R.sessions s d (ap (found R.sessions) name ∙ free))
distinct_by R t p (Plainly (Closes s a name was e)) d =
    subst (λ (q : Turning.Parts). AreDistinct q.sessions) (sym e) (without_distinct R.sessions (session_id s) d)
distinct_by R t p (Forgets a e) d = subst (λ (q : Turning.Parts). AreDistinct q.sessions) (sym e) d

apart_all : (R : State) (inputs : List Input) → Apart R.sessions R.closed →
    Apart (Turning.after_all R inputs).sessions (Turning.after_all R inputs).closed
apart_all R [] apart = apart
apart_all R (i ∷ is) apart = apart_all (Turning.after_input R i) is (apart_by (Handing.later (now_of i) R) (touched R i) (Turning.parts R i) (shape R i) apart)

pub closed_is_over : ClosedIsOver
closed_is_over mib W inputs id closed =
    (apart_all (begin mib W) inputs (record { distinct = tt; over = λ x h. refl })).over id closed

pub are_apart : SessionsAreDistinct
are_apart mib W inputs = (apart_all (begin mib W) inputs (record { distinct = tt; over = λ x h. refl })).distinct

-- one turn keeps names apart
pub distinct_after : (R : State) (i : Input) → AreDistinct R.sessions → AreDistinct (Turning.after_input R i).sessions
distinct_after R i d = distinct_by (Handing.later (now_of i) R) (touched R i) (Turning.parts R i) (shape R i) d
