-- Several turns of a receiver in which a transaction waits for octets.
use Rattle.std.specs.Prelude.{◌==◌}
use Rattle.std.proofs.Common.{◌≡◌, ◌⊎◌, inl, inr, ℕ, ◌≤◌, true, false, not, List, [], ◌∷◌, ◌++◌, length, Option, Some, None, refl, sym, ap, subst, ◌∙◌, append_assoc, arith}
use Rattle.std.proofs.lemmas.Bool.{cond_both, cond-false, cases_Bool, not-true, both_ways}
use Rattle.cfdp_status.specs.declared.transaction.TransactionId.{TransactionId}
use Rattle.cfdp_leases.specs.Leases.{is_same}
use Rattle.cfdp_pdus.specs.Values.{FileDataFields}
use Rattle.cfdp_pdus.specs.declared.eof.Eof.{Eof}
use Rattle.cfdp_pdus.specs.declared.header.Header.{Header}
use Rattle.cfdp_retransmission.specs.Coming.{Piece, keep, keep_all, AnsweredIsWhole}
use Rattle.cfdp_retransmission.proofs.Hearing.{Within}
use Rattle.cfdp_sessions.specs.Sessions.{SessionFields, AreDistinct}
use Rattle.cfdp_sessions.specs.declared.session.Stage.{Stage}
use Rattle.cfdp_sessions.specs.declared.session.Stage.TheVariants.{Held, Known, Over as OverStage, Waiting}
use Rattle.cfdp_transactions.specs.Entry.{Entry, id_of, is_awaiting, takes_data}
use Rattle.cfdp_transactions.specs.Delivery.{data_came, data_at}
use Rattle.cfdp_transactions.specs.Received.{Received, is_whole, gaps_below}
use Rattle.cfdp_transactions.specs.ReceivedLaws.{octet_at, IsIn}
use Rattle.cfdp_transactions.specs.declared.event.Event.{Event}
use Rattle.cfdp_transactions.specs.declared.event.Event.TheVariants.{Data as DataCame}
use Rattle.cfdp_transactions.specs.declared.reply.Reply.{Reply}
use Rattle.cfdp_transactions.specs.Headline.{NextIsSound, NextIsPromised}
use Rattle.cfdp_transactions.specs.Next.{next, run}
use Rattle.cfdp_transactions.specs.Sound.{Sound}
use Rattle.cfdp_transactions.specs.World.{World, entry_of, index_of, next_runnable}
use Rattle.cfdp_transactions.proofs.Received.OctetsAndGaps.{gaps_are_missing}
use Rattle.cfdp_receiver.specs.State.{State, Input, MetadataPdu, DataPdu, EofPdu, AckPdu, PromptPdu, OtherPdu, Expire, Work, Finish, CancelAsked, ForgetAsked, ClockMoved, NotTaken, session_of}
use Rattle.cfdp_receiver.specs.Handing as Handing
use Rattle.cfdp_receiver.specs.Turning.{after_input, after_all}
use Rattle.cfdp_receiver.specs.Laws.{touched, is_work}
use Rattle.cfdp_receiver.proofs.Distinct.{distinct_after}
use Rattle.cfdp_progress.specs.Awaiting.{EntryAwaits, TransactionAwaits, is_awaiting_entry, awaits_octets, GoesOn, piece_in, pieces_in, IsDelivered, WasDelivered, AnsweredTurns, is_named, is_kept_apart, AreKeptApart, StaysDelivered}
use Rattle.cfdp_progress.specs.NakRounds.{IsAskedOnce}
use Rattle.cfdp_receiver.proofs.OthersStay.{others_keep_entries, work_keeps_others, run_sound, sound_all}
use Rattle.cfdp_progress.proofs.PieceOfAwaiting.{fits_of}
use Rattle.cfdp_progress.proofs.Turns.{Before, Still, Is_done, step}
use Rattle.cfdp_retransmission.proofs.Losing.{there_or_not}
use Rattle.cfdp_receiver.proofs.Delivering.{takes_none, whole_where_all}
use Rattle.cfdp_receiver.proofs.AfterInputs.{after_both}
use Rattle.cfdp_leases.proofs.Held.{same_itself}
use Rattle.cfdp_leases.proofs.Admitted.{same_is}

-- ---- after several inputs

pub distinct_all : (R : State) (inputs : List Input) → AreDistinct R.sessions → AreDistinct (after_all R inputs).sessions
distinct_all R [] d = d
distinct_all R (i ∷ is) d = distinct_all (after_input R i) is (distinct_after R i d)

pub mib_all : (R : State) (inputs : List Input) → (after_all R inputs).mib ≡ R.mib
mib_all R [] = refl
mib_all R (i ∷ is) = mib_all (after_input R i) is

pub was_later : (R : State) (i : Input) (is : List Input) (id : TransactionId) → WasDelivered (after_input R i) is id → WasDelivered R (i ∷ is) id
was_later R i is id w = record { front = i ∷ w.front; back = w.back; parts = ap (λ (xs : List Input). i ∷ xs) w.parts; delivered = w.delivered }

pub was_after : (R : State) (xs ys : List Input) (id : TransactionId) → WasDelivered (after_all R xs) ys id → WasDelivered R (xs ++ ys) id
was_after R [] ys id w = w
was_after R (x ∷ xs) ys id w = was_later R x (xs ++ ys) id (was_after (after_input R x) xs ys id w)

pub was_before : (R : State) (xs ys : List Input) (id : TransactionId) → WasDelivered R xs id → WasDelivered R (xs ++ ys) id
was_before R xs ys id w = record {
  front = w.front;
  back = w.back ++ ys;
  parts =
      ap (λ (ws : List Input). ws ++ ys) w.parts ∙ append_assoc w.front w.back ys;
  delivered = w.delivered;
}

-- ---- what comes

within_both : (size : ℕ) (xs ys : List Piece) → Within size (xs ++ ys) → Within size xs × Within size ys
within_both size [] ys w = (tt, w)
within_both size (x ∷ xs) ys w = let rest = within_both size xs ys w.1 in ((w.0, rest.0), rest.1)

pub keep_both : (rs : Received) (xs ys : List Piece) → keep_all rs (xs ++ ys) ≡ keep_all (keep_all rs xs) ys
keep_both rs [] ys = refl
keep_both rs (x ∷ xs) ys = keep_both (keep rs x) xs ys

pub still_awaits : (R : State) (id : TransactionId) (e : Entry) (eof : Eof) (s : SessionFields) → Before R id e eof s → awaits_octets R id ≡ true
still_awaits R id e eof s b = ap is_awaiting_entry b.core.here ∙ ap is_awaiting b.core.phase

-- it goes on waiting, with what was kept
pub record Left (R : State) (inputs : List Input) (id : TransactionId) (eof : Eof) (received : Received) (count : ℕ) : Type 0 where
  pub entry : Entry
  pub session : SessionFields
  pub before : Before (after_all R inputs) id entry eof session
  pub kept : entry.received ≡ received
  pub few : IsAskedOnce R id inputs → session.timer.count ≤ count

pub over_inputs : NextIsSound → NextIsPromised → (R : State) (inputs : List Input) (id : TransactionId) (e : Entry) (eof : Eof) (s : SessionFields) →
    Sound R.world → AreDistinct R.sessions → Before R id e eof s → GoesOn R id inputs →
    Within eof.size (pieces_in R id inputs) → WasDelivered R inputs id ⊎ Left R inputs id eof (keep_all e.received (pieces_in R id inputs)) s.timer.count
over_inputs next_sound promised R [] id e eof s sound d b on within = inr (record { entry = e; session = s; before = b; kept = refl; few = λ q. omega arith })
over_inputs next_sound promised R (i ∷ is) id e eof s sound d b on within =
    let N = after_input R i in
    let fits = within_both eof.size (piece_in R id i) (pieces_in N id is) within in
    let awaits = still_awaits R id e eof s b in
    elim (step next_sound promised R i id e eof s sound d b (on.0 awaits) fits.0) [
      | Still new core kept t here known acknowledged few ↦
          let more : Before N id new eof t = record { here = here; known = known; acknowledged = acknowledged; core = core } in
          elim (over_inputs next_sound promised N is id new eof t (run_sound next_sound R.world (Handing.handed R i) sound)
          (distinct_after R i d) more on.1 fits.1) [
            | inl was ↦ inl (was_later R i is id was)
            | inr left ↦
                inr (record {
                  entry = left.entry;
                  session = left.session;
                  before = left.before;
                  kept = left.kept ∙ ap (λ (rs : Received). keep_all rs (pieces_in N id is)) kept ∙ sym
                      (keep_both e.received (piece_in R id i) (pieces_in N id is));
                  few = λ once. omega (arith, left.few once.1, few (once.0 awaits));
                })
          ]
      | Is_done delivered ↦ inl (record { front = i ∷ []; back = is; parts = refl; delivered = delivered })
    ]

-- ---- nothing is missing

whole_without_gaps : (size : ℕ) (rs : Received) → length rs ≤ size → gaps_below size rs ≡ [] → is_whole size rs ≡ true
whole_without_gaps size rs fits none =
    whole_where_all size rs fits (λ i low. there_or_not (octet_at rs i) (λ e. elim (subst (IsIn i) none ((gaps_are_missing size rs i).1 (low, e))) [ ]))

-- so an entry does not wait
pub never_waits : (W : World) (id : TransactionId) (e : Entry) (eof : Eof) → Sound W → EntryAwaits W id e eof → gaps_below eof.size e.received ≡ [] → ⊥
never_waits W id e eof sound a none =
    both_ways (is_whole eof.size e.received) a.short (whole_without_gaps eof.size e.received (fits_of W id e eof sound a) none)

pub before_of : (R : State) (id : TransactionId) (e : Entry) (eof : Eof) (a : TransactionAwaits R id e eof) → Before R id e eof a.session
before_of R id e eof a = record { here = a.here; known = a.known; acknowledged = a.acknowledged; core = a.core }

pub answered_turns : NextIsSound → NextIsPromised → AnsweredIsWhole → AnsweredTurns
answered_turns next_sound promised whole R inputs id e eof sound d a on within kept answers =
    elim (over_inputs next_sound promised R inputs id e eof a.session sound d (before_of R id e eof a) on within) [
      | inl was ↦ was
      | inr left ↦
          absurd (never_waits (after_all R inputs).world id left.entry eof (sound_all next_sound R inputs sound) left.before.core
          (ap (gaps_below eof.size) left.kept ∙ whole eof.size e.received (pieces_in R id inputs) kept answers))
    ]

-- ---- once it is delivered

idle_same : (W : World) (h : Header) (piece : FileDataFields) → IsDelivered W (id_of h) → (next W (DataCame h piece)).0 ≡ W
idle_same W h piece d =
    let k = index_of W (id_of h) in
    let idle : (data_came W k piece (entry_of W (id_of h))).0 ≡ W =
    ap (λ (o : Option Entry). (data_came W k piece o).0) d.here
    ∙ ap (λ (a : World × Reply). a.0) (cond-false (takes_data d.entry.phase) (data_at W k d.entry piece) (W, _) (takes_none d.entry.phase d.phase)) in
    cond_both (h.destination == W.config.entity) (data_came W k piece (entry_of W (id_of h))) (W, _) (λ (a : World × Reply). a.0 ≡ W) (λ e. idle) (λ e. refl)

known_same : (W : World) (stage : Stage) (v : Event) → (next W v).0 ≡ W → run W (Handing.where_known stage (v ∷ [])) ≡ W
known_same W (Held eof) v same = refl
known_same W Known v same = same
known_same W (OverStage ending) v same = refl
known_same W Waiting v same = refl

session_same : (W : World) (o : Option SessionFields) (v : Event) → (next W v).0 ≡ W → run W (Handing.of_session o (v ∷ [])) ≡ W
session_same W None v same = refl
session_same W (Some s) v same = known_same W s.stage v same

data_same : (R : State) (now : ℕ) (h : Header) (piece : FileDataFields) → IsDelivered R.world (id_of h) → (after_input R (DataPdu now h piece)).world ≡ R.world
data_same R now h piece d =
    let L = Handing.later now R in
    let es = Handing.of_session (session_of L (id_of h)) (DataCame h piece ∷ []) in
    cond_both (Handing.is_ours L h) es [] (λ (vs : List Event). run R.world vs ≡ R.world)
    (λ q. session_same R.world (session_of L (id_of h)) (DataCame h piece) (idle_same R.world h piece d)) (λ q. refl)

delivered_same : (V W : World) (id : TransactionId) → entry_of V id ≡ entry_of W id → IsDelivered W id → IsDelivered V id
delivered_same V W id same d = record { entry = d.entry; here = same ∙ d.here; phase = d.phase }

not_named : (id : TransactionId) (o : Option TransactionId) → not (is_named id o) ≡ true → o ≡ Some id → ⊥
not_named id o h e = both_ways (is_named id o) (not-true (is_named id o) h) (ap (is_named id) e ∙ same_itself id)

stays_one : NextIsSound → NextIsPromised → (R : State) (i : Input) (id : TransactionId) → Sound R.world → IsDelivered R.world id → is_work i ≡ false →
    is_same (touched R i) id ≡ false → IsDelivered (after_input R i).world id
stays_one next_sound promised R i id sound d w other = delivered_same (after_input R i).world R.world id
    (others_keep_entries next_sound promised R i id sound w other) d

stays_step : NextIsSound → NextIsPromised → (R : State) (i : Input) (id : TransactionId) → Sound R.world → IsDelivered R.world id →
    is_kept_apart R id i ≡ true → IsDelivered (after_input R i).world id
stays_step next_sound promised R (DataPdu now h piece) id sound d apart = elim (cases_Bool (is_same (id_of h) id)) [
  | inl same ↦
      let it = same_is (id_of h) id same in
      let own : IsDelivered R.world (id_of h) = subst (IsDelivered R.world) (sym it) d in
      subst (λ (V : World). IsDelivered V id) (sym (data_same R now h piece own)) d
  | inr other ↦ stays_one next_sound promised R (DataPdu now h piece) id sound d refl other
]
stays_step next_sound promised R (Work now) id sound d apart =
    delivered_same (after_input R (Work now)).world R.world id (work_keeps_others next_sound promised R now id sound
    (not_named id (next_runnable R.world.table) apart)) d
stays_step next_sound promised R (MetadataPdu now h m) id sound d apart =
    stays_one next_sound promised R (MetadataPdu now h m) id sound d refl (not-true (is_same (touched R (MetadataPdu now h m)) id) apart)
stays_step next_sound promised R (EofPdu now h eof) id sound d apart =
    stays_one next_sound promised R (EofPdu now h eof) id sound d refl (not-true (is_same (touched R (EofPdu now h eof)) id) apart)
stays_step next_sound promised R (AckPdu now h ack) id sound d apart =
    stays_one next_sound promised R (AckPdu now h ack) id sound d refl (not-true (is_same (touched R (AckPdu now h ack)) id) apart)
stays_step next_sound promised R (PromptPdu now h prompt) id sound d apart =
    stays_one next_sound promised R (PromptPdu now h prompt) id sound d refl (not-true (is_same (touched R (PromptPdu now h prompt)) id) apart)
stays_step next_sound promised R (OtherPdu now h) id sound d apart =
    stays_one next_sound promised R (OtherPdu now h) id sound d refl (not-true (is_same (touched R (OtherPdu now h)) id) apart)
stays_step next_sound promised R (Expire now) id sound d apart =
    stays_one next_sound promised R (Expire now) id sound d refl (not-true (is_same (touched R (Expire now)) id) apart)
stays_step next_sound promised R (Finish now) id sound d apart =
    stays_one next_sound promised R (Finish now) id sound d refl (not-true (is_same (touched R (Finish now)) id) apart)
stays_step next_sound promised R (CancelAsked now n) id sound d apart =
    stays_one next_sound promised R (CancelAsked now n) id sound d refl (not-true (is_same (touched R (CancelAsked now n)) id) apart)
stays_step next_sound promised R ForgetAsked id sound d apart = d
stays_step next_sound promised R (ClockMoved moment) id sound d apart = d
stays_step next_sound promised R NotTaken id sound d apart = d

stays_all : NextIsSound → NextIsPromised → (R : State) (inputs : List Input) (id : TransactionId) → Sound R.world → IsDelivered R.world id →
    AreKeptApart R id inputs → IsDelivered (after_all R inputs).world id
stays_all next_sound promised R [] id sound d apart = d
stays_all next_sound promised R (i ∷ is) id sound d apart =
    stays_all next_sound promised (after_input R i) is id (run_sound next_sound R.world (Handing.handed R i) sound)
    (stays_step next_sound promised R i id sound d apart.0) apart.1

apart_after : (R : State) (xs ys : List Input) (id : TransactionId) → AreKeptApart R id (xs ++ ys) → AreKeptApart (after_all R xs) id ys
apart_after R [] ys id apart = apart
apart_after R (x ∷ xs) ys id apart = apart_after (after_input R x) xs ys id apart.1

pub stays_delivered : NextIsSound → NextIsPromised → StaysDelivered
stays_delivered next_sound promised R inputs id sound w apart =
    let N = after_all R w.front in
    let rest : AreKeptApart N id w.back = apart_after R w.front w.back id (subst (AreKeptApart R id) w.parts apart) in
    let end : after_all R inputs ≡ after_all N w.back = ap (after_all R) w.parts ∙ after_both R w.front w.back in
    subst (λ (M : State). IsDelivered M.world id) (sym end) (stays_all next_sound promised N w.back id (sound_all next_sound R w.front sound) w.delivered rest)
