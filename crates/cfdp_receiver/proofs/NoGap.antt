-- File data that begins within what was received, or right after it, begins no gap.
use Rattle.std.specs.Prelude.{nat_le, nat_lt, ◌==◌, is_some}
use Rattle.std.specs.List.{filter}
use Rattle.std.proofs.Common.{◌≡◌, inl, inr, ℕ, ◌+◌, ◌<◌, ◌≤◌, Bool, true, false, not, ◌&&◌, ◌||◌, if◌then◌else◌, List, [], ◌∷◌, length, Option, Some, None, refl, sym, ap, subst, ◌∙◌, arith}
use Rattle.std.proofs.lemmas.Bool.{cond_both, cond-true, cond-false, cases_Bool, cases_lt, ne_eqb, both_ways}
use Rattle.std.proofs.lemmas.Bool.Decides.{nat_tests}
use Rattle.cfdp_status.proofs.Options.{neither}
use Rattle.cfdp_actions.specs.Filestore.{Filestore}
use Rattle.cfdp_directives.specs.Reading.{NakFields}
use Rattle.cfdp_pdus.specs.Values.{FileDataFields}
use Rattle.cfdp_pdus.specs.declared.header.Header.{Header}
use Rattle.cfdp_sessions.specs.Sessions.{SessionFields, session_id}
use Rattle.cfdp_sessions.specs.declared.session.Stage.{Stage}
use Rattle.cfdp_sessions.specs.declared.session.Stage.TheVariants.{Known}
use Rattle.cfdp_transactions.specs.Delivery.{data_at, data_came, limit, stored, stores, storing}
use Rattle.cfdp_transactions.specs.Ending.{ended, ends}
use Rattle.cfdp_transactions.specs.Entry.{Entry, id_of, gaps_in, progress, takes_data}
use Rattle.cfdp_transactions.specs.Received.{Received, brought, gaps_below, kept_with, pieces}
use Rattle.cfdp_transactions.specs.ReceivedLaws.{octet_at, IsIn, AreRuns}
use Rattle.cfdp_transactions.specs.Next.{next}
use Rattle.cfdp_transactions.specs.World.{World, entry_of, index_of}
use Rattle.cfdp_transactions.specs.declared.event.Event.TheVariants.{Data as DataCame}
use Rattle.cfdp_transactions.specs.declared.phase.Phase.{Phase}
use Rattle.cfdp_transactions.specs.declared.phase.Phase.TheVariants.{Receiving, Awaiting, Executing, Refused, Done, Ended}
use Rattle.cfdp_transactions.specs.declared.reply.Reply.{Reply}
use Rattle.cfdp_transactions.specs.declared.reply.Reply.TheVariants.{Dropped, Faulted, Stored}
use Rattle.cfdp_transactions.proofs.Received.OctetsAndGaps.{first_stays, greatest_end, gaps_are_missing, gaps_are_runs}
use Rattle.cfdp_receiver.specs.State.{State, at_of, at_phase, at_stage}
use Rattle.cfdp_receiver.specs.Due.{is_receiving_at}
use Rattle.cfdp_receiver.specs.code.StateMachine.{begins_no_gap}
use Rattle.cfdp_receiver.specs.Turning.{asks_at_once, asks_stage, gaps_at, is_immediate, progress_at}
use Rattle.cfdp_receiver.proofs.OnlyKeepsData.{none_deferred}
use Rattle.cfdp_receiver.proofs.Delivering.{own_name, placed}
use Rattle.cfdp_retransmission.proofs.Losing.{brings_some}

-- ---- octets

-- after the end of what was received nothing is missing of what is received now
none_missing : (rs : Received) (at x : ℕ) (xs : List ℕ) (i : ℕ) → at ≤ length rs → length rs ≤ i →
    i < length (kept_with rs at (x ∷ xs)) → octet_at (kept_with rs at (x ∷ xs)) i ≡ None → ⊥
none_missing rs at x xs i from low high missing =
    let there = brings_some at (x ∷ xs) i (omega (arith, from, low)) (omega (arith, greatest_end rs at x xs, high, low)) in
    let none = (neither (octet_at rs i) (brought at (x ∷ xs) i) (sym (first_stays rs at (x ∷ xs) i) ∙ missing)).1 in
    both_ways (is_some (brought at (x ∷ xs) i)) (ap is_some none) there

-- ---- gaps

abbrev from_on : ℕ → List (ℕ × ℕ) → List (ℕ × ℕ)
from_on low gs = filter (λ (g : ℕ × ℕ). nat_le low g.0) gs

is_before : (a b : ℕ) → b < a → nat_le a b ≡ false
is_before a b h = grind (arith, nat_tests)

none_from_on : (low from : ℕ) (gs : List (ℕ × ℕ)) → AreRuns from gs → ((i : ℕ) → low ≤ i → IsIn i gs → ⊥) → from_on low gs ≡ []
none_from_on low from [] runs none = refl
none_from_on low from (g ∷ gs) runs none = elim (cases_lt g.0 low) [
  | inl before ↦
      cond-false (nat_le low g.0) (g ∷ from_on low gs) (from_on low gs) (is_before low g.0 before)
      ∙ none_from_on low (g.1 + 1) gs runs.2 (λ i after there. none i after (inr there))
  | inr after ↦ absurd (none g.0 after (inl (omega arith, runs.1)))
]

-- ---- the entry

-- it has no gap from this offset on
abbrev HasNone : ℕ → Option Entry → Type 0
HasNone low entry = from_on low (gaps_at entry) ≡ []

by_phase : (low : ℕ) (e : Entry) → e.phase ≡ Receiving → from_on low (gaps_below (length e.received) e.received) ≡ [] → HasNone low (Some e)
by_phase low e phase none = ap (λ (p : Phase). from_on low (gaps_in p e)) phase ∙ none

as_it_was : (e : Entry) → e.phase ≡ Receiving → HasNone (progress e) (Some e)
as_it_was e phase =
    let rs = e.received in
    by_phase (progress e) e phase
    (none_from_on (length rs) 0 (gaps_below (length rs) rs) (gaps_are_runs (length rs) rs)
    (λ i after there. absurd (omega (arith, after, ((gaps_are_missing (length rs) rs i).0 there).0))))

with_more : (F : Filestore) (e : Entry) (at x : ℕ) (xs : List ℕ) → e.phase ≡ Receiving → at ≤ progress e →
    HasNone (progress e) (Some (storing F e (kept_with e.received at (x ∷ xs))))
with_more F e at x xs phase from =
    let rs = kept_with e.received at (x ∷ xs) in
    by_phase (progress e) (storing F e rs) phase
    (none_from_on (progress e) 0 (gaps_below (length rs) rs) (gaps_are_runs (length rs) rs)
    (λ i after there.
    let missing = (gaps_are_missing (length rs) rs i).0 there in
    none_missing e.received at x xs i from after missing.0 missing.1))

-- ---- the world

abbrev HasNoneIn : ℕ → Header → World → Type 0
HasNoneIn low h V = HasNone low (entry_of V (id_of h))

data_none : (W : World) (h : Header) (e : Entry) (at : ℕ) (xs : List ℕ) → entry_of W (id_of h) ≡ Some e → e.phase ≡ Receiving → at ≤ progress e →
    HasNoneIn (progress e) h (data_at W (index_of W (id_of h)) e (record { offset = at; octets = xs })).0
data_none W h e at [] here phase from = subst (HasNone (progress e)) (sym here) (as_it_was e phase)
data_none W h e at (x ∷ xs) here phase from =
    let k = index_of W (id_of h) in
    let low = progress e in
    let rs = kept_with e.received at (x ∷ xs) in
    let new = storing W.filestore e rs in
    let over = ended W.filestore e 6 in
    let P : World × Reply → Type 0 = λ a. HasNoneIn low h a.0 in
    let name = own_name W h e here in
    let same : HasNoneIn low h W = subst (HasNone low) (sym here) (as_it_was e phase) in
    let last = stored e.phase (stores W k e rs) k new in
    let kept : P last =
    subst (λ (p : Phase). P (stored p (stores W k e rs) k new)) (sym phase)
    (subst (HasNone low) (sym (placed W (stores W k e rs) h e new here name refl)) (with_more W.filestore e at x xs phase from)) in
    let size = limit e.phase W.config e in
    let end = at + length (x ∷ xs) in
    let dropped = cond_both (nat_lt 32 (pieces rs)) (W, Dropped) last P (λ b. same) (λ b. kept) in
    let faulted : P (ends W k e 6, Faulted 6) = subst (HasNone low) (sym (placed W (ends W k e 6) h e over here name refl)) refl in
    subst P (sym (cond-false (length (x ∷ xs) == 0) (W, Stored) _ (ne_eqb (length (x ∷ xs)) 0 (λ z. absurd (omega (arith, z))))))
    (cond_both (nat_lt size end) (ends W k e 6, Faulted 6) (if nat_lt 32 (pieces rs) then (W, Dropped) else last) P (λ b. faulted) (λ b. dropped))

came_none : (W : World) (h : Header) (p : FileDataFields) (e : Entry) → entry_of W (id_of h) ≡ Some e → e.phase ≡ Receiving → p.offset ≤ progress e →
    HasNoneIn (progress e) h (next W (DataCame h p)).0
came_none W h p e here phase from =
    let k = index_of W (id_of h) in
    let P : World × Reply → Type 0 = λ a. HasNoneIn (progress e) h a.0 in
    let same : HasNoneIn (progress e) h W = subst (HasNone (progress e)) (sym here) (as_it_was e phase) in
    let known : P (data_came W k p (Some e)) =
    subst P (sym (cond-true (takes_data e.phase) (data_at W k e p) (W, _) (ap takes_data phase))) (data_none W h e p.offset p.octets here phase from) in
    cond_both (h.destination == W.config.entity) (data_came W k p (entry_of W (id_of h))) (W, _) P
    (λ b. subst (λ (o : Option Entry). P (data_came W k p o)) (sym here) known) (λ b. same)

-- ---- what is asked

none_if : (b c : Bool) (naks : List NakFields) → c ≡ true → (if b && not c then naks else []) ≡ []
none_if true true naks e = refl
none_if false true naks e = refl
none_if b false naks e = absurd cc

pub none_from_there : (R : State) (s : SessionFields) (h : Header) (p : FileDataFields) (e : Entry) → session_id s ≡ id_of h → entry_of R.world (id_of h)
    ≡ Some e →
    e.phase ≡ Receiving → p.offset ≤ progress e → asks_at_once R (next R.world (DataCame h p)).0 s ≡ []
none_from_there R s h p e named here phase from =
    let V = (next R.world (DataCame h p)).0 in
    let low = progress_at (entry_of R.world (session_id s)) in
    let same : low ≡ progress e = ap (λ id. progress_at (entry_of R.world id)) named ∙ ap progress_at here in
    let none : from_on low (gaps_at (entry_of V (session_id s))) ≡ [] =
    ap (λ (n : ℕ). from_on n (gaps_at (entry_of V (session_id s)))) same
    ∙ ap (λ id. from_on (progress e) (gaps_at (entry_of V id))) named
    ∙ came_none R.world h p e here phase from in
    none_if (is_immediate R.mib.nak_mode && s.header.acknowledged && is_receiving_at (at_of V s))
    (length (from_on low (gaps_at (entry_of V (session_id s)))) == 0)
    (asks_stage R.mib s.header low s.stage (entry_of V (session_id s)))
    (ap (λ (gs : List (ℕ × ℕ)). length gs == 0) none)

receiving_phase : (phase : Phase) → is_receiving_at (at_phase phase) ≡ true → phase ≡ Receiving
receiving_phase Receiving e = refl
receiving_phase (Awaiting made) e = absurd cc
receiving_phase (Executing n) e = absurd cc
receiving_phase Refused e = absurd cc
receiving_phase Done e = absurd cc
receiving_phase (Ended condition) e = absurd cc

no_later : (a b : ℕ) → nat_le a b ≡ true → a ≤ b
no_later a b h = grind (arith, nat_tests)

-- by what the core has of the transaction
by_entry : (R : State) (s : SessionFields) (h : Header) (p : FileDataFields) (entry : Option Entry) → session_id s ≡ id_of h → entry_of R.world (id_of h)
    ≡ entry →
    is_receiving_at (at_stage Known entry) ≡ true → p.offset ≤ progress_at entry → asks_at_once R (next R.world (DataCame h p)).0 s ≡ []
by_entry R s h p None named here receiving from = absurd cc
by_entry R s h p (Some e) named here receiving from = none_from_there R s h p e named here (receiving_phase e.phase receiving) from

pub none_at_once : (R : State) (s : SessionFields) (h : Header) (p : FileDataFields) → session_id s ≡ id_of h → s.stage ≡ Known →
    is_receiving_at (at_of R.world s) ≡ true → begins_no_gap R (id_of h) p ≡ true → asks_at_once R (next R.world (DataCame h p)).0 s ≡ []
none_at_once R s h p named known receiving no_gap = elim (cases_Bool (is_immediate R.mib.nak_mode)) [
  | inl immediate ↦
      let entry = entry_of R.world (id_of h) in
      let at : is_receiving_at (at_stage Known entry) ≡ true =
      ap (λ id. is_receiving_at (at_stage Known (entry_of R.world id))) (sym named)
      ∙ ap (λ (stage : Stage). is_receiving_at (at_stage stage (entry_of R.world (session_id s)))) (sym known)
      ∙ receiving in
      let from : nat_le p.offset (progress_at entry) ≡ true = ap (λ (b : Bool). not b || nat_le p.offset (progress_at entry)) (sym immediate) ∙ no_gap in
      by_entry R s h p entry named refl at (no_later p.offset (progress_at entry) from)
  | inr deferred ↦ none_deferred R (next R.world (DataCame h p)).0 s deferred
]
