-- How often the NAK PDUs of an answer ask for an octet, and for the Metadata PDU.
use Rattle.std.specs.Prelude.{nat_le}
use Rattle.std.specs.List.{filter}
use Rattle.std.proofs.Common.{◌≡◌, ◌⊎◌, inl, inr, ℕ, ◌+◌, ◌<◌, ◌≤◌, Bool, true, false, ◌&&◌, ◌==◌, List, [], ◌∷◌, length, Option, Some, None, refl, sym, ap, subst, ◌∙◌, arith}
use Rattle.std.proofs.lemmas.Bool.{cond_both, cond-false, cases_Bool, le-leb, lt-ltb, le-ltb, eqb-true, ne_eqb}
use Rattle.cfdp_status.specs.declared.transaction.TransactionId.{TransactionId}
use Rattle.cfdp_directives.specs.Reading.{NakFields}
use Rattle.cfdp_retransmission.specs.Coming.{continues, cover_count}
use Rattle.cfdp_retransmission.specs.Naks.{SegmentRequest}
use Rattle.cfdp_transactions.specs.Entry.{Entry, id_of, gaps, gaps_in, reach, awaited, progress}
use Rattle.cfdp_transactions.specs.Received.{gaps_below}
use Rattle.cfdp_transactions.specs.ReceivedLaws.{AreRuns}
use Rattle.cfdp_transactions.specs.declared.phase.Phase.{Phase}
use Rattle.cfdp_transactions.specs.declared.phase.Phase.TheVariants.{Receiving, Awaiting, Executing, Refused, Done, Ended}
use Rattle.cfdp_transactions.specs.World.{World, entry_of, index_of}
use Rattle.cfdp_transactions.proofs.Received.OctetsAndGaps.{gaps_are_runs}
use Rattle.cfdp_pdus.specs.Values.{FileDataFields}
use Rattle.cfdp_pdus.specs.declared.header.Header.{Header}
use Rattle.cfdp_pdus.specs.Bits.{one_if}
use Rattle.cfdp_sessions.specs.Sessions.{SessionFields}
use Rattle.cfdp_sessions.specs.declared.session.Stage.{Stage}
use Rattle.cfdp_sessions.specs.declared.session.Stage.TheVariants.{Held, Known, Over, Waiting}
use Rattle.cfdp_transactions.specs.Next.{run}
use Rattle.cfdp_transactions.specs.Sound.{Each}
use Rattle.cfdp_transactions.specs.declared.event.Event.{Event}
use Rattle.cfdp_transactions.specs.declared.event.Event.TheVariants.{Data as DataCame}
use Rattle.cfdp_receiver.specs.declared.mib.Mib.{Mib}
use Rattle.cfdp_receiver.specs.State.{State, begin, Input, MetadataPdu, DataPdu, EofPdu, AckPdu, PromptPdu, OtherPdu, Expire, Work, Finish, CancelAsked, ForgetAsked, ClockMoved, NotTaken, session_of}
use Rattle.cfdp_receiver.specs.Handing as Handing
use Rattle.cfdp_receiver.specs.Turning as Turning
use Rattle.cfdp_receiver.specs.Laws.{touched, Asked, Asks_none, Asks_all, Asks_gaps, Asks_new, is_data, requests_of_naks, asks_metadata, AsksOnce, Once_held, Once_known, EndsStayThere, NaksAskOnceIn, NaksAskOnce}
use Rattle.cfdp_receiver.proofs.NaksAsk.{naks_ask, asks_for, exactly_missing, from_zero}
use Rattle.cfdp_receiver.proofs.HandedOn.{hands_on}
use Rattle.cfdp_receiver.proofs.LastThere.{LastThere, Joined, run_last, next_joined}

-- ---- the Metadata PDU

no_metadata : (from : ℕ) (xs : List SegmentRequest) → AreRuns from xs → asks_metadata xs ≡ 0
no_metadata from [] runs = refl
no_metadata from (r ∷ rs) runs =
    let other : one_if ((r.0 == 0) && (r.1 == 0)) ≡ 0 = past_zero (r.0 == 0) r.1 (omega (arith, runs.1)) in
    omega (arith, other, no_metadata (r.1 + 1) rs runs.2)
  where
    past_zero : (b : Bool) (end : ℕ) → 1 ≤ end → one_if (b && (end == 0)) ≡ 0
    past_zero true end h = ap one_if (ne_eqb end 0 (λ e. absurd (omega (arith, e, h))))
    past_zero false end h = refl

fewer_metadata : (low : ℕ) (xs : List SegmentRequest) → asks_metadata xs ≡ 0 → asks_metadata (filter (λ (g : SegmentRequest). nat_le low g.0) xs) ≡ 0
fewer_metadata low [] none = refl
fewer_metadata low (r ∷ rs) none =
    let rest = filter (λ (g : SegmentRequest). nat_le low g.0) rs in
    let later = fewer_metadata low rs (omega (arith, none)) in
    cond_both (nat_le low r.0) (r ∷ rest) rest (λ (ys : List SegmentRequest). asks_metadata ys ≡ 0) (λ e. omega (arith, none, later)) (λ e. later)

metadata_in : (entry : Entry) (phase : Phase) → asks_metadata (gaps_in phase entry) ≡ 0
metadata_in entry Receiving = no_metadata 0 (gaps_below (length entry.received) entry.received) (gaps_are_runs (length entry.received) entry.received)
metadata_in entry (Awaiting checks) = no_metadata 0 (gaps_below (awaited entry.eof) entry.received) (gaps_are_runs (awaited entry.eof) entry.received)
metadata_in entry (Executing next) = refl
metadata_in entry Refused = refl
metadata_in entry Done = refl
metadata_in entry (Ended condition) = refl

-- ---- where the EOF PDU is held

record AllOnce (size at : ℕ) (xs : List SegmentRequest) : Type 0 where
  metadata : asks_metadata xs ≡ 1
  inside : at < size → cover_count at xs ≡ 1
  outside : size ≤ at → cover_count at xs ≡ 0

nothing_once : (at : ℕ) → AllOnce 0 at ((0, 0) ∷ [])
nothing_once at =
    record { metadata = refl; inside = λ h. absurd (omega (arith, h)); outside = λ h. rw (le-leb 0 at (omega arith), le-ltb at 0 (omega arith)) refl }

file_once : (size at : ℕ) → (size == 0) ≡ false → AllOnce size at ((0, 0) ∷ (0, size) ∷ [])
file_once size at some = record {
  metadata = rw some refl;
  inside = λ h. rw (le-leb 0 at (omega arith), le-ltb at 0 (omega arith), lt-ltb at size h) refl;
  outside = λ h. rw (le-leb 0 at (omega arith), le-ltb at 0 (omega arith), le-ltb at size h) refl;
}

all_once : (size at : ℕ) → AllOnce size at (Turning.all_of size)
all_once size at = elim (cases_Bool (size == 0)) [
  | inl none ↦
      subst (λ (n : ℕ). AllOnce n at (Turning.all_of n)) (sym (eqb-true size 0 none)) (nothing_once at)
  | inr some ↦
      subst (λ (xs : List SegmentRequest). AllOnce size at ((0, 0) ∷ xs)) (sym (cond-false (size == 0) [] ((0, size) ∷ []) some)) (file_once size at some)
]

-- ---- the answer

-- what is there after File Data goes on from all that was there before, or nothing is asked for
abbrev GoesOn : World → Bool → State → TransactionId → Type 0
GoesOn U data_came N id = data_came ≡ true → (now : Entry) → entry_of N.world id ≡ Some now → Joined (Turning.progress_at (entry_of U id)) now

once_new : (U : World) (N : State) (id : TransactionId) (at : ℕ) (sent : List NakFields) (s : SessionFields) (entry : Entry) (low : ℕ) →
    1 ≤ Turning.most_nak_requests N.mib →
    session_of N id ≡ Some s → s.stage ≡ Known → entry_of N.world id ≡ Some entry → low ≡ Turning.progress_at (entry_of U id) →
    continues entry.received low ≡ true →
    sent ≡ Turning.sequence N.mib s.header low (reach entry) (Turning.gaps_after low entry) → AsksOnce U true N id at (requests_of_naks sent)
once_new U N id at sent s entry low most here known there from joined e =
    let all = ap requests_of_naks e ∙ asks_for N.mib s.header low (reach entry) (Turning.gaps_after low entry) most in
    let same = ap requests_of_naks e in
    let exact = exactly_missing N.mib s.header entry low at most joined in
    Once_known s entry here known there (ap asks_metadata all ∙ fewer_metadata low (gaps entry) (metadata_in entry entry.phase))
    (λ h. ap (cover_count at) same ∙ exact.0 (omega (arith, from, h.0)) h.1 h.2)
    (λ out. ap (cover_count at) same ∙ exact.1 (λ above inside missing. out (omega (arith, from, above), inside, missing)))

no_gaps : (low : ℕ) (entry : Entry) → gaps entry ≡ [] → 1 ≤ length (Turning.gaps_after low entry) → ⊥
no_gaps low entry none some =
    let zero_long : length (Turning.gaps_after low entry) ≡ 0 = ap (λ (xs : List SegmentRequest). length
    (filter (λ (g : SegmentRequest). nat_le low g.0) xs)) none in
    absurd (omega (arith, zero_long, some))

once_in : (U : World) (data_came : Bool) (N : State) (id : TransactionId) (at : ℕ) (sent : List NakFields) → 1 ≤ Turning.most_nak_requests N.mib →
    GoesOn U data_came N id →
    Asked U data_came N id sent → (sent ≡ []) ⊎ AsksOnce U data_came N id at (requests_of_naks sent)
once_in U data_came N id at sent most on (Asks_none e) = inl e
once_in U data_came N id at sent most on (Asks_all s eof here mode held e) =
    let all = ap requests_of_naks e ∙ asks_for N.mib s.header 0 eof.size (Turning.all_of eof.size) most in
    let once = all_once eof.size at in
    inr (Once_held s eof here held (ap asks_metadata all ∙ once.metadata) (λ h. ap (cover_count at) all ∙ once.inside h)
    (λ h. ap (cover_count at) all ∙ once.outside h))
once_in U false N id at sent most on (Asks_gaps s entry here mode known there other e) =
    let all = ap requests_of_naks e ∙ asks_for N.mib s.header 0 (reach entry) (gaps entry) most in
    let same : requests_of_naks sent ≡ requests_of_naks (Turning.sequence N.mib s.header 0 (reach entry) (Turning.gaps_after 0 entry)) =
    ap requests_of_naks e ∙ ap (λ (xs : List SegmentRequest). requests_of_naks (Turning.sequence N.mib s.header 0 (reach entry) xs))
    (sym (from_zero (gaps entry))) in
    let exact = exactly_missing N.mib s.header entry 0 at most refl in
    inr (Once_known s entry here known there (ap asks_metadata all ∙ metadata_in entry entry.phase)
    (λ h. ap (cover_count at) same ∙ exact.0 h.0 h.1 h.2) (λ out. ap (cover_count at) same ∙ exact.1 (λ low inside missing. out (low, inside, missing))))
once_in U true N id at sent most on (Asks_gaps s entry here mode known there other e) = absurd cc
once_in U false N id at sent most on (Asks_new s entry low here mode known there came immediate from some e) = absurd cc
once_in U true N id at sent most on (Asks_new s entry low here mode known there came immediate from some e) = elim (on refl entry there) [
  | inl joined ↦ inr (once_new U N id at sent s entry low most here known there from (ap (continues entry.received) from ∙ joined) e)
  | inr none ↦ absurd (no_gaps low entry none some)
]

-- ---- what came goes on from what was there

abbrev FollowsIn : State → TransactionId → List Event → Type 0
FollowsIn R id es = (now : Entry) → entry_of (run R.world es) id ≡ Some now → Joined (Turning.progress_at (entry_of R.world id)) now

nothing_follows : (R : State) (id : TransactionId) → Each LastThere R.world.table → FollowsIn R id []
nothing_follows R id all now here = inl (ap (λ (o : Option Entry). continues now.received (Turning.progress_at o)) here ∙ all (index_of R.world id) now here)

data_follows : (R : State) (h : Header) (piece : FileDataFields) (o : Option Entry) → Each LastThere R.world.table → entry_of R.world (id_of h) ≡ o →
    FollowsIn R (id_of h) (DataCame h piece ∷ [])
data_follows R h piece None all here now there = inl (ap (λ (o : Option Entry). continues now.received (Turning.progress_at o)) here)
data_follows R h piece (Some e) all here now there =
    subst (λ (o : Option Entry). Joined (Turning.progress_at o) now) (sym here)
    (next_joined R.world h piece e (progress e) here (all (index_of R.world (id_of h)) e here) now there)

stage_follows : (R : State) (id : TransactionId) (stage : Stage) (es : List Event) → FollowsIn R id [] → FollowsIn R id es →
    FollowsIn R id (Handing.where_known stage es)
stage_follows R id (Held eof) es none some = none
stage_follows R id Known es none some = some
stage_follows R id (Over ending) es none some = none
stage_follows R id Waiting es none some = none

session_follows : (R : State) (id : TransactionId) (o : Option SessionFields) (es : List Event) → FollowsIn R id [] → FollowsIn R id es →
    FollowsIn R id (Handing.of_session o es)
session_follows R id None es none some = none
session_follows R id (Some s) es none some = stage_follows R id s.stage es none some

goes_on : (R : State) (i : Input) → Each LastThere R.world.table → GoesOn R.world (is_data i) (Turning.after_input R i) (touched R i)
goes_on R (DataPdu now h piece) all d =
    let L = Handing.later now R in
    let none = nothing_follows R (id_of h) all in
    cond_both (Handing.is_ours L h) (Handing.of_session (session_of L (id_of h)) (DataCame h piece ∷ [])) [] (FollowsIn R (id_of h))
    (λ e. session_follows R (id_of h) (session_of L (id_of h)) (DataCame h piece ∷ []) none (data_follows R h piece (entry_of R.world (id_of h)) all refl))
    (λ e. none)
goes_on R (MetadataPdu now h m) all d = absurd cc
goes_on R (EofPdu now h eof) all d = absurd cc
goes_on R (AckPdu now h ack) all d = absurd cc
goes_on R (PromptPdu now h prompt) all d = absurd cc
goes_on R (OtherPdu now h) all d = absurd cc
goes_on R (Expire now) all d = absurd cc
goes_on R (Work now) all d = absurd cc
goes_on R (Finish now) all d = absurd cc
goes_on R (CancelAsked now id) all d = absurd cc
goes_on R ForgetAsked all d = absurd cc
goes_on R (ClockMoved now) all d = absurd cc
goes_on R NotTaken all d = absurd cc

-- ---- over all inputs

mib_stays : (R : State) (inputs : List Input) → (Turning.after_all R inputs).mib ≡ R.mib
mib_stays R [] = refl
mib_stays R (i ∷ is) = mib_stays (Turning.after_input R i) is

pub naks_ask_once_in : NaksAskOnceIn
naks_ask_once_in R i at most all =
    once_in R.world (is_data i) (Turning.after_input R i) (touched R i) at (Turning.parts R i).answer.naks most (λ d. goes_on R i (all d) d) (naks_ask R i)

pub ends_stay_there : EndsStayThere
ends_stay_there R i all = run_last R.world (Handing.handed R i) all

pub none_listed : (W : World) → W.table ≡ [] → Each LastThere W.table
none_listed W none = subst (Each LastThere) (sym none) (λ k e at. absurd cc)

pub naks_ask_once : NaksAskOnce
naks_ask_once mib W inputs i at none most =
    let R0 = begin mib W in
    let R = Turning.after_all R0 inputs in
    let all : Each LastThere R.world.table =
    subst (λ (V : World). Each LastThere V.table) (sym (hands_on R0 inputs)) (run_last W (Turning.all_handed R0 inputs) (none_listed W none)) in
    naks_ask_once_in R i at (subst (λ (m : Mib). 1 ≤ Turning.most_nak_requests m) (sym (mib_stays R0 inputs)) most) (λ d. all)
