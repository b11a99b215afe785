-- After the acknowledgement of its Finished PDU a transaction is closed, and no Finished PDU of it is sent.
use Rattle.std.proofs.Common.{◌≡◌, inl, inr, ℕ, ◌+◌, true, ◌==◌, List, [], ◌∷◌, length, Some, None, refl, sym, ap, subst, ◌∙◌, arith}
use Rattle.std.proofs.lemmas.Bool.{cond-true, cond_both, cases_Bool, eq-eqb, both_ways}
use Rattle.std.proofs.lemmas.Option.{none-some}
use Rattle.cfdp_status.specs.declared.transaction.TransactionId.{TransactionId}
use Rattle.cfdp_leases.specs.Leases.{is_same}
use Rattle.cfdp_pdus.specs.declared.header.Header.{Header}
use Rattle.cfdp_directives.specs.declared.ack.Ack.{Ack}
use Rattle.cfdp_sessions.specs.Closed.{remembers, most_closed}
use Rattle.cfdp_sessions.specs.Sessions.{SessionFields, session_id, found, without_session}
use Rattle.cfdp_sessions.specs.code.Sessions.{IsFound}
use Rattle.cfdp_sessions.proofs.ClosedNames.{name_remembered}
use Rattle.cfdp_sessions.proofs.Names.{found_name, gone, replaced_none, added_other, without_none}
use Rattle.cfdp_sessions.specs.declared.session.Stage.TheVariants.{Waiting}
use Rattle.cfdp_transactions.specs.Entry.{id_of}
use Rattle.cfdp_receiver.specs.declared.indication.Word.TheVariants as words
use Rattle.cfdp_receiver.specs.State.{State, Input, AckPdu, now_of, session_of, is_closed}
use Rattle.cfdp_receiver.specs.Handing as Handing
use Rattle.cfdp_receiver.specs.Turning as Turning
use Rattle.cfdp_receiver.specs.Laws.{due_name, session_name, touched, touched_in, Sent, None_sent, First_sent, Sent_again, sent_for, sent_closed, NoneAfterAck}
use Rattle.cfdp_receiver.proofs.Finishing.{finished_only}
use Rattle.cfdp_receiver.proofs.TurnShapes.{Shape, Plainly, Keeps, Puts, Adds, Closes, Forgets, shape, IsDueOf, due_is, IsOverOf, over_is}
use Rattle.cfdp_leases.proofs.Held.{same_itself}
use Rattle.cfdp_leases.proofs.Admitted.{same_is}

-- ---- no session begins while the name is closed

none_by : (R : State) (t : TransactionId) (p : Turning.Parts) → Shape R t p → (id : TransactionId) → found R.sessions id ≡ None →
    remembers R.closed id ≡ true →
    found p.sessions id ≡ None
none_by R t p (Plainly (Keeps a e)) id none closed = ap (λ (q : Turning.Parts). found q.sessions id) e ∙ none
none_by R t p (Plainly (Puts s a name e)) id none closed = ap (λ (q : Turning.Parts). found q.sessions id) e ∙ replaced_none R.sessions s id none
none_by R t p (Plainly (Adds s a name free new e)) id none closed =
    ap (λ (q : Turning.Parts). found q.sessions id) e ∙ elim (cases_Bool (is_same (session_id s) id)) [
      | inl same ↦ absurd (both_ways (is_closed R t) new (ap (is_closed R) (sym name ∙ same_is (session_id s) id same) ∙ closed))
      | inr other ↦ added_other R.sessions s id other ∙ none
    ]
none_by R t p (Plainly (Closes s a name was e)) id none closed =
    ap (λ (q : Turning.Parts). found q.sessions id) e ∙ without_none R.sessions (session_id s) id none
none_by R t p (Forgets a e) id none closed = ap (λ (q : Turning.Parts). found q.sessions id) e ∙ none

stays_closed : (R : State) (i : Input) (id : TransactionId) → session_of R id ≡ None → is_closed R id ≡ true → session_of (Turning.after_input R i) id ≡ None
stays_closed R i id none closed = none_by (Handing.later (now_of i) R) (touched R i) (Turning.parts R i) (shape R i) id none closed

-- ---- nothing is sent without a session

not_found : (R : State) (id n : TransactionId) → session_of R id ≡ None → n ≡ id → IsFound R.sessions n → ⊥
not_found R id n none same f = none-some f.0 (sym none ∙ ap (found R.sessions) (sym same) ∙ f.1)

none_in : (R : State) (i : Input) (id : TransactionId) (sent : List (List ℕ)) → session_of R id ≡ None → touched_in R i ≡ id → Sent R i sent → length sent ≡ 0
none_in R i id sent none same (None_sent e) = ap length e
none_in R i id sent none same (First_sent now s is over e) =
    absurd (not_found R id (session_id s) none (sym (ap (touched_in R) is ∙ ap session_name over) ∙ same)
    (subst (IsOverOf R.sessions) over (over_is R.world R.sessions)))
none_in R i id sent none same (Sent_again now s is due waits e) =
    absurd (not_found R id (session_id s) none (sym (ap (touched_in R) is ∙ ap due_name due) ∙ same) (subst (IsDueOf R.sessions) due (due_is R R.sessions)))

none_sent : (R : State) (i : Input) (id : TransactionId) → session_of R id ≡ None → sent_for R i id ≡ 0
none_sent R i id none =
    let sent = (Turning.parts R i).answer.finished in
    cond_both (is_same (touched R i) id) (length sent) 0 (λ (n : ℕ). n ≡ 0)
    (λ same. none_in (Handing.later (now_of i) R) i id sent none (same_is (touched R i) id same) (finished_only R i)) (λ other. refl)

none_closed : (R : State) (inputs : List Input) (id : TransactionId) → session_of R id ≡ None → sent_closed R inputs id ≡ 0
none_closed R [] id none = refl
none_closed R (i ∷ is) id none =
    cond_both (is_closed R id) (sent_for R i id + sent_closed (Turning.after_input R i) is id) 0 (λ (n : ℕ). n ≡ 0)
    (λ closed. omega (arith, none_sent R i id none, none_closed (Turning.after_input R i) is id (stays_closed R i id none closed))) (λ open_now. refl)

-- ---- the acknowledgement

-- in the state that is as late as the input
pub acknowledged_closes : (R : State) (h : Header) (ack : Ack) (s : SessionFields) → Handing.is_ours R h ≡ true → ack.directive ≡ 5 →
    session_of R (id_of h) ≡ Some s → s.stage ≡ Waiting →
    Turning.where_ours R h (Turning.ack_parts R h ack (session_of R (id_of h))) ≡ Turning.closes R s (Turning.said_of_header h words.Acknowledged)
acknowledged_closes R h ack s ours directive here waits =
    cond-true (Handing.is_ours R h) (Turning.ack_parts R h ack (session_of R (id_of h))) (Turning.keeps R (Turning.quiet (Turning.foreign h))) ours
    ∙ ap (Turning.ack_parts R h ack) here ∙ ap (Turning.ack_stage R h ack s) waits
    ∙ cond-true (ack.directive == 5) (Turning.closes R s (Turning.said_of_header h words.Acknowledged))
    (Turning.keeps R (Turning.said_of_header h words.Idle))
    (eq-eqb ack.directive 5 directive)

ack_closes : (R : State) (now : ℕ) (h : Header) (ack : Ack) (s : SessionFields) → Handing.is_ours R h ≡ true → ack.directive ≡ 5 →
    session_of R (id_of h) ≡ Some s →
    s.stage ≡ Waiting → Turning.parts R (AckPdu now h ack) ≡ Turning.closes (Handing.later now R) s (Turning.said_of_header h words.Acknowledged)
ack_closes R now h ack s ours directive here waits = acknowledged_closes (Handing.later now R) h ack s ours directive here waits

pub none_after_ack : NoneAfterAck
none_after_ack R now h ack s inputs distinct ours directive here waits =
    let id = id_of h in
    let name : session_id s ≡ id = found_name R.sessions id s here in
    let closes = ack_closes R now h ack s ours directive here waits in
    let none : session_of (Turning.after_input R (AckPdu now h ack)) id ≡ None =
    ap (λ (p : Turning.Parts). found p.sessions id) closes ∙ ap (λ (n : TransactionId). found (without_session R.sessions n) id) name
    ∙ gone R.sessions id distinct in
    let closed : is_closed (Turning.after_input R (AckPdu now h ack)) id ≡ true =
    ap (λ (p : Turning.Parts). remembers p.closed id) closes
    ∙ name_remembered R.closed (most_closed s.header) s.has_changed (session_id s) id (ap (λ (n : TransactionId). is_same n id) name ∙ same_itself id) in
    (none, closed, none_closed (Turning.after_input R (AckPdu now h ack)) inputs id none)
