-- From the EOF PDU until the session is closed.
use Rattle.std.specs.Prelude.{if◌then◌else◌, is_some}
use Rattle.std.specs.List.{AllByRecursion, flat_map}
use Rattle.std.proofs.Common.{◌≡◌, ◌⊎◌, inl, inr, ℕ, ◌+◌, ◌<◌, ◌≤◌, Bool, true, false, not, List, [], ◌∷◌, ◌++◌, map, length, Option, Some, None, refl, sym, ap, subst, ◌∙◌, arith}
use Rattle.std.proofs.lemmas.Bool.{cond_both}
use Rattle.std.proofs.lemmas.List.{length_push}
use Rattle.cfdp_status.specs.declared.transaction.TransactionId.{TransactionId}
use Rattle.cfdp_leases.specs.Leases.{is_same}
use Rattle.cfdp_pdus.specs.declared.eof.Eof.{Eof}
use Rattle.cfdp_pdus.specs.Bits.{one_if}
use Rattle.cfdp_retransmission.specs.Rounds.{Exchange, asked_for, lost_in, spare_round, WholeAfterLosses}
use Rattle.cfdp_sessions.specs.Closed.{remembers}
use Rattle.cfdp_sessions.specs.Sessions.{SessionFields, session_id, found, AreDistinct}
use Rattle.cfdp_sessions.specs.declared.session.Stage.{Stage}
use Rattle.cfdp_sessions.specs.declared.session.Stage.TheVariants.{Held, Known, Over as OverStage, Waiting}
use Rattle.cfdp_sessions.proofs.Names.{replaced_self, gone, member_found}
use Rattle.cfdp_transactions.specs.Entries.{OnlyTakeRemoves, TakeRemoves}
use Rattle.cfdp_transactions.specs.Entry.{Entry}
use Rattle.cfdp_transactions.specs.Headline.{NextIsSound, NextIsPromised}
use Rattle.cfdp_transactions.specs.Received.{Received}
use Rattle.cfdp_transactions.specs.Sound.{Sound}
use Rattle.cfdp_transactions.specs.World.{entry_of}
use Rattle.cfdp_transactions.specs.declared.outcome.Outcome.{Outcome}
use Rattle.cfdp_receiver.specs.declared.indication.Word.TheVariants as words
use Rattle.cfdp_receiver.specs.declared.mib.Mib.{Mib}
use Rattle.cfdp_receiver.specs.State.{State, Input, Expire, Finish, session_of}
use Rattle.cfdp_receiver.specs.Due as Dues
use Rattle.cfdp_receiver.specs.Handing as Handing
use Rattle.cfdp_receiver.specs.Turning as Turning
use Rattle.cfdp_receiver.specs.Turning.{most_nak_requests, parts, after_input, after_all, is_known}
use Rattle.cfdp_receiver.specs.Laws.{knows, AreKnown}
use Rattle.cfdp_receiver.proofs.Distinct.{distinct_after}
use Rattle.cfdp_receiver.proofs.SessionsAreKnown.{Laws, known_after, known_all}
use Rattle.cfdp_receiver.proofs.FinishedSentAtMost.{first_over_is}
use Rattle.cfdp_progress.specs.Awaiting.{WasDelivered}
use Rattle.cfdp_progress.specs.NakRounds.{requests_of_each, naks_of_opening, IsServed, FirstRound}
use Rattle.cfdp_progress.specs.Closing.{is_acknowledged, IsSentOnce, FinishedRound, finished_inputs, AreFinishedRounds, rounds_lost, WasClosed}
use Rattle.cfdp_progress.specs.Concluding.{has_nothing_left, WasConcluded}
use Rattle.cfdp_progress.specs.InAll.{EitherRound, as_finished, inputs_of, is_session_of, concludes, IsAcknowledgedAfter, IsWatched, AreEitherRounds, total_lost, lost_in_all, ClosedInAll}
use Rattle.cfdp_receiver.proofs.OthersStay.{run_sound, sound_all}
use Rattle.cfdp_progress.proofs.PieceOfAwaiting.{fits_of, few_of}
use Rattle.cfdp_progress.proofs.Turns.{Before}
use Rattle.cfdp_progress.proofs.Runs.{still_awaits, distinct_all, mib_all}
use Rattle.cfdp_progress.proofs.Openings.{open_expire, open_first}
use Rattle.cfdp_progress.proofs.Rounds.{SoFar, Room, is_below, not_enough, round_goes, one_more, lost_more}
use Rattle.cfdp_progress.proofs.ClosedAfterLosses.{AreLow, IsSafeToSend, over, rounds_close, remembers_it, closed_later, closed_after, closed_before, is_lost_by}
use Rattle.cfdp_progress.proofs.Concluding.{concluded_when_done, concluded_later}
use Rattle.cfdp_receiver.proofs.Delivering.{takes_none}
use Rattle.cfdp_receiver.proofs.AfterInputs.{after_both}
use Rattle.cfdp_leases.proofs.Held.{same_itself}

-- a session that is known
record HasKnown (R : State) (id : TransactionId) : Type 0 where
  session : SessionFields
  here : session_of R id ≡ Some session
  known : session.stage ≡ Known

pub known_stage : (stage : Stage) → is_known stage ≡ true → stage ≡ Known
known_stage (Held eof) h = absurd cc
known_stage Known h = refl
known_stage (OverStage ending) h = absurd cc
known_stage Waiting h = absurd cc

session_by : (R : State) (id : TransactionId) (o : Option SessionFields) → session_of R id ≡ o → knows o ≡ true → HasKnown R id
session_by R id None here h = absurd cc
session_by R id (Some s) here h = record { session = s; here = here; known = known_stage s.stage h }

-- ---- after the outcome was handed out

-- the session is closed, or it waits with no expiry counted
abbrev Handed : TransactionId → Turning.Parts → Type 0
Handed id p =
    ((found p.sessions id ≡ None) × (remembers p.closed id ≡ true))
    ⊎ ((u : SessionFields) × (found p.sessions id ≡ Some u) × (u.stage ≡ Waiting) × (u.timer.count ≡ 0))

finish_hands : (R : State) (s : SessionFields) (o : Outcome) → AreDistinct R.sessions → found R.sessions (session_id s) ≡ Some s →
    Handed (session_id s) (Turning.finish_session R s o)
finish_hands R s o d here =
    let H = Handed (session_id s) in
    let closed = Turning.closes R (Turning.settled s o) (Turning.said_word s words.Closed) in
    let quietly = Turning.closes R (Turning.settled s o) (Turning.concluded s o words.Closed) in
    let unacknowledged = Turning.closes R (Turning.settled s o) (Turning.sends_it s o words.Closed) in
    let waiting = Turning.replaces_one R (Turning.waits_for_ack R s o) (Turning.sends_it s o words.Finished) in
    let third = if not s.header.acknowledged then unacknowledged else waiting in
    let second = if not o.send then quietly else third in
    let none = gone R.sessions (session_id s) d in
    let named = remembers_it R.closed (Turning.settled s o) in
    cond_both s.is_abandoned closed second H (λ q. inl (none, named))
    (λ q. cond_both (not o.send) quietly third H (λ z. inl (none, named))
    (λ z. cond_both (not s.header.acknowledged) unacknowledged waiting H (λ x. inl (none, named))
    (λ x. inr (Turning.waits_for_ack R s o, replaced_self R.sessions (Turning.waits_for_ack R s o) (session_id s) (s, here) refl, refl, refl))))

finish_handed : (R : State) (moment : ℕ) (s : SessionFields) (id : TransactionId) → AreDistinct R.sessions → Dues.first_over R.world R.sessions ≡ Some s →
    session_id s ≡ id → Handed id (parts R (Finish moment))
finish_handed R moment s id d is named =
    let L = Handing.later moment R in
    let here = member_found R.sessions s d (first_over_is R.world R.sessions s is).0 in
    subst (λ (n : TransactionId). Handed n (parts R (Finish moment))) named
    (subst (Handed (session_id s)) (sym (ap (Turning.finish_parts L) is)) (finish_hands L s (Turning.outcome_for s (entry_of R.world (session_id s))) d here))

-- ---- the round in which the file is delivered

once_after : (R : State) (xs ys : List Input) (id : TransactionId) → IsSentOnce R id (xs ++ ys) → IsSentOnce (after_all R xs) id ys
once_after R [] ys id once = once
once_after R (x ∷ xs) ys id once = once_after (after_input R x) xs ys id once.1

acknowledged_after : (lost : Bool) (R : State) (xs ys : List Input) (id : TransactionId) → IsAcknowledgedAfter lost R id (xs ++ ys) →
    IsAcknowledgedAfter lost (after_all R xs) id ys
acknowledged_after lost R [] ys id comes = comes
acknowledged_after lost R (x ∷ xs) ys id comes = acknowledged_after lost (after_input R x) xs ys id comes.1

concluded_after : (R : State) (xs ys : List Input) (id : TransactionId) → WasConcluded (after_all R xs) ys id → WasConcluded R (xs ++ ys) id
concluded_after R [] ys id w = w
concluded_after R (x ∷ xs) ys id w = concluded_later R x (xs ++ ys) id (concluded_after (after_input R x) xs ys id w)

-- the session is closed in it, or its Finished PDU was sent, and that or the acknowledgement is lost
data Ends (N : State) (rest : List Input) (id : TransactionId) (lost : Bool) : Type 0 where
  Is_closed : (closed : WasClosed N rest id) → Ends N rest id lost
  Is_sent : (u : SessionFields) → (here : session_of (after_all N rest) id ≡ Some u) → (waits : u.stage ≡ Waiting) → (none : u.timer.count ≡ 0) →
      (is : lost ≡ true) → Ends N rest id lost

ends_concluded : (N : State) (rest : List Input) (id : TransactionId) (lost : Bool) → AreDistinct N.sessions → IsWatched lost N id rest →
    WasConcluded N rest id → Ends N rest id lost
ends_concluded N rest id lost d watched w =
    let i = Finish w.moment in
    let G = after_all N w.front in
    let P = after_input G i in
    let apart = distinct_all N w.front d in
    let once : IsSentOnce P id w.back = (once_after N w.front (i ∷ w.back) id (subst (IsSentOnce N id) w.parts watched.once)).1 in
    let is : concludes G id i ≡ true = ap (is_session_of id) w.over ∙ ap (λ (n : TransactionId). is_same n id) w.named ∙ same_itself id in
    let comes : lost ≡ false → is_acknowledged P id w.back ≡ true =
    (acknowledged_after lost N w.front (i ∷ w.back) id (subst (IsAcknowledgedAfter lost N id) w.parts watched.acknowledged)).0 is in
    let lift : WasClosed G (i ∷ w.back) id → Ends N rest id lost =
    λ c. Is_closed (subst (λ (xs : List Input). WasClosed N xs id) (sym w.parts) (closed_after N w.front (i ∷ w.back) id c)) in
    let end : after_all N rest ≡ after_all P w.back = ap (after_all N) w.parts ∙ after_both N w.front (i ∷ w.back) in
    elim (finish_handed G w.moment w.session id apart w.over w.named) [
      | inl closed ↦ lift (record { front = i ∷ []; back = w.back; parts = refl; gone = closed.0; remembered = closed.1 })
      | inr sent ↦ elim (over P w.back id sent.0 (distinct_after G i apart) sent.1 sent.2 once) [
        | inl was ↦ lift (closed_later G i w.back id was)
        | inr left ↦ Is_sent sent.0 (ap (λ (M : State). session_of M id) end ∙ left.0) sent.2 sent.3 (is_lost_by P id lost w.back comes left.1)
      ]
    ]

ends_delivered : Laws → NextIsSound → NextIsPromised → (N : State) (rest : List Input) (id : TransactionId) (lost : Bool) → Sound N.world →
    AreDistinct N.sessions → AreKnown N → IsWatched lost N id rest → WasDelivered N rest id → Ends N rest id lost
ends_delivered laws next_sound promised N rest id lost sound d known watched was =
    let F = after_all N was.front in
    let sound_now = sound_all next_sound N was.front sound in
    let apart = distinct_all N was.front d in
    let e = was.delivered.entry in
    let is = session_by F id (session_of F id) refl (sym (known_all laws next_sound promised N was.front sound d known id) ∙ ap is_some was.delivered.here) in
    let end : after_all N rest ≡ after_all F was.back = ap (after_all N) was.parts ∙ after_both N was.front was.back in
    let done : has_nothing_left (after_all F was.back) ≡ true = ap has_nothing_left (sym end) ∙ watched.done in
    let w : WasConcluded F was.back id =
    concluded_when_done next_sound promised F was.back id is.session e sound_now apart is.here is.known was.delivered.here
    (takes_none e.phase was.delivered.phase) done in
    ends_concluded N rest id lost d watched (subst (λ (xs : List Input). WasConcluded N xs id) (sym was.parts) (concluded_after N was.front was.back id w))

-- ---- the rounds that are left, as Finished rounds

abbrev as_all : List EitherRound → List FinishedRound
as_all rounds = map as_finished rounds

finished_of : (R : State) (id : TransactionId) (rounds : List EitherRound) → AreEitherRounds R id rounds → AreFinishedRounds R id (as_all rounds)
finished_of R id [] are = tt
finished_of R id (round ∷ rounds) are = (are.0.closes, finished_of (after_all R (inputs_of round)) id rounds are.1)

same_inputs : (rounds : List EitherRound) → flat_map finished_inputs (as_all rounds) ≡ flat_map inputs_of rounds
same_inputs [] = refl
same_inputs (round ∷ rounds) = ap (λ (rest : List Input). inputs_of round ++ rest) (same_inputs rounds)

fewer_lost : (rounds : List EitherRound) → rounds_lost (as_all rounds) ≤ total_lost rounds
fewer_lost [] = omega arith
fewer_lost (round ∷ rounds) = omega (arith, fewer_lost rounds)

as_many : (rounds : List EitherRound) → length (as_all rounds) ≡ length rounds
as_many [] = refl
as_many (round ∷ rounds) = omega (arith, as_many rounds)

abbrev pub AreBelowAll : List EitherRound → Type 0
AreBelowAll rounds = AllByRecursion (λ round. round.is_at_limit ≡ false) rounds

low_all : (rounds : List EitherRound) → AreBelowAll rounds → AreLow (as_all rounds)
low_all [] below = tt
low_all (round ∷ rounds) below = (below.0, low_all rounds below.1)

-- each begins below the limits; or the limits are above what is lost
abbrev AreBothSafe : Mib → ℕ → Received → List Exchange → List EitherRound → Type 0
AreBothSafe mib count rs done rounds =
    AreBelowAll rounds
    ⊎ ((count + 1 ≤ length done) × (lost_in done + total_lost rounds + spare_round rs < mib.nak.limit) × (total_lost rounds < mib.ack.limit))

room_of : (mib : Mib) (count : ℕ) (rs : Received) (done : List Exchange) (round : EitherRound) (rounds : List EitherRound) →
    AreBothSafe mib count rs done (round ∷ rounds) → Room round.is_at_limit mib.nak.limit count rs done
room_of mib count rs done round rounds (inl below) = inl below.0
room_of mib count rs done round rounds (inr safe) = inr (safe.0, omega (arith, safe.1))

safe_rest : (mib : Mib) (count later : ℕ) (rs : Received) (done : List Exchange) (round : EitherRound) (rounds : List EitherRound) →
    AreBothSafe mib count rs done (round ∷ rounds) → later ≤ count + 1 → AreBothSafe mib later rs (done ++ round.exchange ∷ []) rounds
safe_rest mib count later rs done round rounds (inl below) few = inl below.1
safe_rest mib count later rs done round rounds (inr safe) few =
    inr (
      omega (arith, safe.0, few, length_push done round.exchange),
      omega
          (arith, safe.1, lost_more done round.exchange),
      omega (arith, safe.2),
    )

-- once the Finished PDU was sent in a round, and was lost
safe_closing : (mib : Mib) (count sent : ℕ) (rs : Received) (done : List Exchange) (round : EitherRound) (rounds : List EitherRound) →
    AreBothSafe mib count rs done (round ∷ rounds) → sent ≡ 0 → round.is_lost ≡ true → IsSafeToSend mib.ack.limit sent (as_all rounds)
safe_closing mib count sent rs done round rounds (inl below) zero lost = inl (low_all rounds below.1)
safe_closing mib count sent rs done round rounds (inr safe) zero lost = inr (omega (arith, safe.2, zero, ap one_if lost, fewer_lost rounds))

-- ---- all rounds

close_rest : (mib : Mib) (M : State) (id : TransactionId) (u : SessionFields) (rounds : List EitherRound) → M.mib ≡ mib → AreDistinct M.sessions →
    session_of M id ≡ Some u → u.stage ≡ Waiting → AreEitherRounds M id rounds →
    IsSafeToSend mib.ack.limit u.timer.count (as_all rounds) → total_lost rounds < length rounds → WasClosed M (flat_map inputs_of rounds) id
close_rest mib M id u rounds same d here w are safe enough =
    subst (λ (xs : List Input). WasClosed M xs id) (same_inputs rounds)
    (rounds_close mib M id u (as_all rounds) same d here w (finished_of M id rounds are) safe (omega (arith, enough, fewer_lost rounds, as_many rounds)))

all_go : Laws → NextIsSound → NextIsPromised → WholeAfterLosses →
    (mib : Mib) (R : State) (id : TransactionId) (rounds : List EitherRound) (e : Entry) (eof : Eof) (s : SessionFields) (rs : Received)
    (done : List Exchange) →
    R.mib ≡ mib → Sound R.world → AreDistinct R.sessions → AreKnown R → Before R id e eof s → SoFar (most_nak_requests mib) rs eof done e →
    AreEitherRounds R id rounds → AreBothSafe mib s.timer.count rs done rounds →
    lost_in done + total_lost rounds + spare_round rs < length done + length rounds → WasClosed R (flat_map inputs_of rounds) id
all_go laws next_sound promised whole mib R id [] e eof s rs done same sound d known b so are safe enough =
    absurd (omega (arith, enough, not_enough whole R id e eof s (most_nak_requests mib) rs done sound b so))
all_go laws next_sound promised whole mib R id (round ∷ rounds) e eof s rs done same sound d known b so are safe enough =
    let most = most_nak_requests mib in
    let i = Expire round.moment in
    let N = after_input R i in
    let M = after_all N round.rest in
    let exchange = round.exchange in
    let naks = (parts R i).answer.naks in
    let is = are.0.asks (still_awaits R id e eof s b) in
    let room = room_of mib s.timer.count rs done round rounds safe in
    let low : round.is_at_limit ≡ false =
    is_below whole R id e eof s most rs done round.moment round.is_at_limit sound d b so
    (subst (λ (m : Mib). Room round.is_at_limit m.nak.limit s.timer.count rs done) (sym same) room) is.served in
    let opened = open_expire R id e eof s round.moment d b (subst (IsServed R id round.moment) low is.served) in
    let asks : requests_of_each naks ≡ asked_for most eof.size e.received =
    opened.asks ∙ ap (λ (m : Mib). asked_for (most_nak_requests m) eof.size e.received) same in
    let sound_now = run_sound next_sound R.world (Handing.handed R i) sound in
    let apart = distinct_after R i d in
    let known_now = known_after laws next_sound promised R i sound d known in
    let few_rounds = not_enough whole R id e eof s most rs done sound b so in
    elim (round_goes next_sound promised N id e eof opened.session most naks exchange round.rest sound_now apart opened.before so.some asks is.answered) [
      | inl was ↦ elim (ends_delivered laws next_sound promised N round.rest id round.is_lost sound_now apart known_now are.0.watched was) [
        | Is_closed closed ↦ closed_before R (inputs_of round) (flat_map inputs_of rounds) id (closed_later R i round.rest id closed)
        | Is_sent u here waits none lost ↦
            closed_after R (inputs_of round) (flat_map inputs_of rounds) id
            (close_rest mib M id u rounds (mib_all N round.rest ∙ same) (distinct_all N round.rest apart) here waits are.1
            (safe_closing mib s.timer.count u.timer.count rs done round rounds safe none lost) (omega (arith, enough, few_rounds, ap one_if lost)))
      ]
      | inr left ↦
          closed_after R (inputs_of round) (flat_map inputs_of rounds) id (
          all_go laws next_sound promised whole mib M id rounds left.entry eof left.session rs (done ++ exchange ∷ [])
          (mib_all N round.rest ∙ same)
          (sound_all next_sound N round.rest sound_now) (distinct_all N round.rest apart)
          (known_all laws next_sound promised N round.rest sound_now apart known_now) left.before
          (one_more most rs eof done e left.entry naks exchange so asks is.answered.exchanged left.kept) are.1
          (safe_rest mib s.timer.count left.session.timer.count rs done round rounds safe (omega (arith, left.few is.answered.once, opened.few)))
          (omega (arith, enough, lost_more done exchange, length_push done exchange))
          )
    ]

abbrev SafeAtFirst : Mib → ℕ → FirstRound → Bool → List EitherRound → Type 0
SafeAtFirst mib spare first is_lost rounds =
    AreBelowAll rounds ⊎ ((lost_in_all first is_lost rounds + spare < mib.nak.limit) × (lost_in_all first is_lost rounds < mib.ack.limit))

safe_first : (mib : Mib) (count : ℕ) (rs : Received) (first : FirstRound) (is_lost : Bool) (rounds : List EitherRound) →
    SafeAtFirst mib (spare_round rs) first is_lost rounds → count ≤ 0 →
    AreBothSafe mib count rs (first.exchange ∷ []) rounds
safe_first mib count rs first is_lost rounds (inl below) few = inl below
safe_first mib count rs first is_lost rounds (inr room) few =
    inr (omega (arith, few), omega (arith, room.0), omega (arith, room.1))

closing_first : (mib : Mib) (spare sent : ℕ) (first : FirstRound) (is_lost : Bool) (rounds : List EitherRound) →
    SafeAtFirst mib spare first is_lost rounds → sent ≡ 0 → is_lost ≡ true → IsSafeToSend mib.ack.limit sent (as_all rounds)
closing_first mib spare sent first is_lost rounds (inl below) zero lost = inl (low_all rounds below)
closing_first mib spare sent first is_lost rounds (inr room) zero lost = inr (omega (arith, room.1, zero, ap one_if lost, fewer_lost rounds))

pub closed_in_all : OnlyTakeRemoves → TakeRemoves → NextIsSound → NextIsPromised → WholeAfterLosses → ClosedInAll
closed_in_all only_take takes next_sound promised whole R id first is_lost rounds e eof sound d known some r watched are low enough =
    let laws : Laws = record { only_take = only_take; takes = takes } in
    let mib = R.mib in
    let most = most_nak_requests mib in
    let i = first.opening in
    let N = after_input R i in
    let M = after_all N first.rest in
    let exchange = first.exchange in
    let naks = naks_of_opening R i e in
    let opened = open_first R id i e eof r.opens r.awaits in
    let sound_now = run_sound next_sound R.world (Handing.handed R i) sound in
    let apart = distinct_after R i d in
    let known_now = known_after laws next_sound promised R i sound d known in
    let begun : SoFar most e.received eof [] e = record {
      some = some;
      few = few_of N.world id e eof sound_now opened.before.core;
      fits = fits_of N.world id e eof sound_now opened.before.core;
      rounds = tt;
      received = refl;
    } in
    elim (round_goes next_sound promised N id e eof opened.session most naks exchange first.rest sound_now apart opened.before some opened.asks r.answered) [
      | inl was ↦ elim (ends_delivered laws next_sound promised N first.rest id is_lost sound_now apart known_now watched was) [
        | Is_closed closed ↦ closed_before R (i ∷ first.rest) (flat_map inputs_of rounds) id (closed_later R i first.rest id closed)
        | Is_sent u here waits none lost ↦
            closed_after R (i ∷ first.rest) (flat_map inputs_of rounds) id
            (close_rest mib M id u rounds (mib_all N first.rest) (distinct_all N first.rest apart) here waits are
            (closing_first mib (spare_round e.received) u.timer.count first is_lost rounds low none lost) (omega (arith, enough, ap one_if lost)))
      ]
      | inr left ↦
          closed_after R (i ∷ first.rest) (flat_map inputs_of rounds) id (
          all_go laws next_sound promised whole mib M id rounds left.entry eof left.session e.received (exchange ∷ [])
          (mib_all N first.rest)
          (sound_all next_sound N first.rest sound_now) (distinct_all N first.rest apart)
          (known_all laws next_sound promised N first.rest sound_now apart known_now) left.before
          (one_more most e.received eof [] e left.entry naks exchange begun opened.asks r.answered.exchanged left.kept) are
          (safe_first mib left.session.timer.count e.received first is_lost rounds low (omega (arith, left.few r.answered.once, opened.few)))
          (omega (arith, enough))
          )
    ]
