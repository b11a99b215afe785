-- Rounds in which an EOF PDU is held: each loses a PDU, until the Metadata PDU comes.
use Rattle.std.specs.List.{flat_map}
use Rattle.std.proofs.Common.{◌≡◌, ◌⊎◌, inl, inr, ℕ, ◌+◌, ◌<◌, ◌≤◌, Bool, true, false, ◌&&◌, List, [], ◌∷◌, ◌++◌, length, Option, Some, None, refl, sym, ap, subst, ◌∙◌, append_assoc, arith}
use Rattle.std.proofs.lemmas.Bool.{cases_Bool, and_parts, or_parts, both_ways, or_cases}
use Rattle.cfdp_status.specs.declared.transaction.TransactionId.{TransactionId}
use Rattle.cfdp_leases.specs.Leases.{is_same}
use Rattle.cfdp_pdus.specs.declared.eof.Eof.{Eof}
use Rattle.cfdp_pdus.specs.Bits.{one_if}
use Rattle.cfdp_retransmission.specs.Rounds.{spare_round, WholeAfterLosses}
use Rattle.cfdp_sessions.specs.Sessions.{SessionFields, AreDistinct}
use Rattle.cfdp_sessions.specs.declared.session.Stage.{Stage}
use Rattle.cfdp_sessions.specs.declared.session.Stage.TheVariants.{Held, Known, Over as OverStage, Waiting}
use Rattle.cfdp_transactions.specs.Entries.{OnlyTakeRemoves, TakeRemoves}
use Rattle.cfdp_transactions.specs.Entry.{id_of}
use Rattle.cfdp_transactions.specs.Headline.{NextIsSound, NextIsPromised}
use Rattle.cfdp_transactions.specs.World.{entry_of}
use Rattle.cfdp_receiver.specs.declared.mib.Mib.{Mib}
use Rattle.cfdp_receiver.specs.State.{State, Input, MetadataPdu, DataPdu, EofPdu, AckPdu, PromptPdu, OtherPdu, Expire, Work, Finish, CancelAsked, ForgetAsked, ClockMoved, NotTaken, session_of}
use Rattle.cfdp_receiver.specs.Handing.{is_ours}
use Rattle.cfdp_receiver.specs.Turning.{most_nak_requests, after_input, after_all}
use Rattle.cfdp_receiver.proofs.Distinct.{distinct_after}
use Rattle.cfdp_receiver.proofs.SessionsAreKnown.{Laws, known_all}
use Rattle.cfdp_progress.specs.HeldRounds.{is_eof_held, holds_in, holds_eof, joins_held, comes, HeldRound, held_inputs, IsHeldRound, AreHeldRounds, comes_in, lost_while_held, AreHeldBelow, MetadataCame, MetadataComes, until_metadata, ClosedFromHeld}
use Rattle.cfdp_progress.specs.InAll.{EitherRound, inputs_of, lost_in_all}
use Rattle.cfdp_progress.specs.NakRounds.{MetadataOpens, Opens, FirstRound}
use Rattle.cfdp_progress.proofs.ClosedAfterLosses.{closed_after}
use Rattle.cfdp_progress.proofs.Holding.{StillHeld, stays_held, Opened, opened_again, opened_first}
use Rattle.cfdp_progress.proofs.InAll.{AreBelowAll, closed_in_all}
use Rattle.cfdp_receiver.proofs.OthersStay.{sound_all}
use Rattle.cfdp_progress.proofs.Runs.{distinct_all, mib_all}
use Rattle.cfdp_progress.proofs.NothingOfFile.{nothing_kept}
use Rattle.cfdp_leases.proofs.Admitted.{same_is}

-- ---- a round without the Metadata PDU

record Loses (R : State) (id : TransactionId) (round : HeldRound) (count : ℕ) : Type 0 where
  lost : round.is_lost ≡ true
  still : StillHeld (after_all R (held_inputs round)) id count

round_loses : (R : State) (id : TransactionId) (round : HeldRound) (count : ℕ) → AreDistinct R.sessions → Opened R round.opening id count →
    IsHeldRound R id round → comes (after_input R round.opening) id round.rest ≡ false → Loses R id round count
round_loses R id round count d opened is none =
    let N = after_input R round.opening in
    let still = stays_held N round.rest id count (distinct_after R round.opening d) opened.still is.goes_on none in
    elim (cases_Bool round.is_lost) [
      | inl lost ↦ record { lost = lost; still = still }
      | inr kept ↦ absurd (both_ways (comes N id round.rest) none (is.answered opened.asks kept))
    ]

-- ---- as long as it does not come, as many rounds lose a PDU

abbrev Low : List HeldRound → ℕ → ℕ → Type 0
Low rounds so_far limit = AreHeldBelow rounds ⊎ (so_far + lost_while_held rounds < limit)

room_of : (R : State) (round : HeldRound) (rounds : List HeldRound) (so_far : ℕ) (mib : Mib) → R.mib ≡ mib → Low (round ∷ rounds) so_far mib.nak.limit →
    (round.is_at_limit ≡ false) ⊎ (so_far < R.mib.nak.limit)
room_of R round rounds so_far mib same (inl below) = inl below.0
room_of R round rounds so_far mib same (inr room) = inr (subst (λ (m : Mib). so_far < m.nak.limit) (sym same) (omega (arith, room)))

low_rest : (round : HeldRound) (rounds : List HeldRound) (so_far limit : ℕ) → round.is_lost ≡ true → Low (round ∷ rounds) so_far limit →
    Low rounds (so_far + 1) limit
low_rest round rounds so_far limit lost (inl below) = inl below.1
low_rest round rounds so_far limit lost (inr room) = inr (omega (arith, room, ap one_if lost))

few_again : (R : State) (id : TransactionId) (rounds : List HeldRound) (count : ℕ) (mib : Mib) → R.mib ≡ mib → 1 ≤ most_nak_requests mib →
    AreDistinct R.sessions → StillHeld R id count → AreHeldRounds R id rounds → comes_in R id rounds ≡ false →
    Low rounds (count + 1) mib.nak.limit → length rounds ≤ lost_while_held rounds
few_again R id [] count mib same some d h are none low = omega arith
few_again R id (round ∷ rounds) count mib same some d h are none low =
    let M = after_all R (held_inputs round) in
    let no = or_parts (comes (after_input R round.opening) id round.rest) (comes_in M id rounds) none in
    let most : 1 ≤ most_nak_requests R.mib = subst (λ (m : Mib). 1 ≤ most_nak_requests m) (sym same) some in
    let opened = opened_again R id round.opening round.is_at_limit count most d h (room_of R round rounds (count + 1) mib same low) are.0.begins in
    let loses = round_loses R id round (count + 1) d opened are.0 no.0 in
    let rest =
    few_again M id rounds (count + 1) mib (mib_all R (held_inputs round) ∙ same) some (distinct_all R (held_inputs round) d) loses.still
    (are.1 no.0) no.1 (low_rest round rounds (count + 1) mib.nak.limit loses.lost low) in
    omega (arith, rest, ap one_if loses.lost)

few_held : (R : State) (id : TransactionId) (rounds : List HeldRound) → AreDistinct R.sessions → session_of R id ≡ None → 1 ≤ most_nak_requests R.mib →
    AreHeldRounds R id rounds → comes_in R id rounds ≡ false → Low rounds 0 R.mib.nak.limit → length rounds ≤ lost_while_held rounds
few_held R id [] d new some are none low = omega arith
few_held R id (round ∷ rounds) d new some are none low =
    let M = after_all R (held_inputs round) in
    let no = or_parts (comes (after_input R round.opening) id round.rest) (comes_in M id rounds) none in
    let opened = opened_first R id round.opening round.is_at_limit some d new are.0.begins in
    let loses = round_loses R id round 0 d opened are.0 no.0 in
    let rest =
    few_again M id rounds 0 R.mib (mib_all R (held_inputs round)) some (distinct_all R (held_inputs round) d) loses.still
    (are.1 no.0) no.1 (low_rest round rounds 0 R.mib.nak.limit loses.lost low) in
    omega (arith, rest, ap one_if loses.lost)

low_first : (rounds : List HeldRound) (limit : ℕ) → AreHeldBelow rounds ⊎ (lost_while_held rounds < limit) → Low rounds 0 limit
low_first rounds limit (inl below) = inl below
low_first rounds limit (inr room) = inr (omega (arith, room))

-- ---- the Metadata PDU

record HeldSession (R : State) (id : TransactionId) : Type 0 where
  session : SessionFields
  here : session_of R id ≡ Some session
  eof : Eof
  held : session.stage ≡ Held eof

eof_of : (stage : Stage) → is_eof_held stage ≡ true → (eof : Eof) × (stage ≡ Held eof)
eof_of (Held eof) h = (eof, refl)
eof_of Known h = absurd cc
eof_of (OverStage ending) h = absurd cc
eof_of Waiting h = absurd cc

session_by : (R : State) (id : TransactionId) (o : Option SessionFields) → session_of R id ≡ o → holds_in o ≡ true → HeldSession R id
session_by R id None here h = absurd cc
session_by R id (Some s) here h = let e = eof_of s.stage h in record { session = s; here = here; eof = e.0; held = e.1 }

came_later : (R : State) (i : Input) (is : List Input) (id : TransactionId) → MetadataCame (after_input R i) is id → MetadataCame R (i ∷ is) id
came_later R i is id c = record {
  front = i ∷ c.front;
  moment = c.moment;
  header = c.header;
  metadata = c.metadata;
  back = c.back;
  parts = ap (λ (xs : List Input). i ∷ xs) c.parts;
  opens = c.opens;
}

came_after : (R : State) (xs ys : List Input) (id : TransactionId) → MetadataCame (after_all R xs) ys id → MetadataCame R (xs ++ ys) id
came_after R [] ys id c = c
came_after R (x ∷ xs) ys id c = came_later R x (xs ++ ys) id (came_after (after_input R x) xs ys id c)

came_before : (R : State) (xs ys : List Input) (id : TransactionId) → MetadataCame R xs id → MetadataCame R (xs ++ ys) id
came_before R xs ys id c = record {
  front = c.front;
  moment = c.moment;
  header = c.header;
  metadata = c.metadata;
  back = c.back ++ ys;
  parts = ap (λ (ws : List Input). ws ++ ys) c.parts ∙ append_assoc c.front (MetadataPdu c.moment c.header c.metadata ∷ c.back) ys;
  opens = c.opens;
}

came_here : (R : State) (i : Input) (is : List Input) (id : TransactionId) → joins_held R id i ≡ true → MetadataCame R (i ∷ is) id
came_here R (MetadataPdu now h m) is id it =
    let all = and_parts (is_ours R h) (is_same (id_of h) id && (h.acknowledged && holds_eof R id)) it in
    let named = and_parts (is_same (id_of h) id) (h.acknowledged && holds_eof R id) all.1 in
    let mode = and_parts h.acknowledged (holds_eof R id) named.1 in
    let s = session_by R id (session_of R id) refl mode.1 in
    record {
      front = [];
      moment = now;
      header = h;
      metadata = m;
      back = is;
      parts = refl;
      opens = record {
        ours = all.0;
        named = same_is (id_of h) id named.0;
        mode = mode.0;
        session = s.session;
        here = s.here;
        eof = s.eof;
        held = s.held;
      };
    }
came_here R (DataPdu now h piece) is id it = absurd cc
came_here R (EofPdu now h eof) is id it = absurd cc
came_here R (AckPdu now h ack) is id it = absurd cc
came_here R (PromptPdu now h prompt) is id it = absurd cc
came_here R (OtherPdu now h) is id it = absurd cc
came_here R (Expire now) is id it = absurd cc
came_here R (Work now) is id it = absurd cc
came_here R (Finish now) is id it = absurd cc
came_here R (CancelAsked now n) is id it = absurd cc
came_here R ForgetAsked is id it = absurd cc
came_here R (ClockMoved moment) is id it = absurd cc
came_here R NotTaken is id it = absurd cc

came_in : (R : State) (inputs : List Input) (id : TransactionId) → comes R id inputs ≡ true → MetadataCame R inputs id
came_in R [] id it = absurd cc
came_in R (i ∷ is) id it = elim (or_cases (joins_held R id i) (comes (after_input R i) id is) it) [
  | inl here ↦ came_here R i is id here
  | inr rest ↦ came_later R i is id (came_in (after_input R i) is id rest)
]

came_in_rounds : (R : State) (rounds : List HeldRound) (id : TransactionId) → comes_in R id rounds ≡ true →
    MetadataCame R (flat_map held_inputs rounds) id
came_in_rounds R [] id it = absurd cc
came_in_rounds R (round ∷ rounds) id it =
    let M = after_all R (held_inputs round) in
    let others = flat_map held_inputs rounds in
    elim (or_cases (comes (after_input R round.opening) id round.rest) (comes_in M id rounds) it) [
      | inl here ↦ came_before R (held_inputs round) others id (came_later R round.opening round.rest id
          (came_in (after_input R round.opening) round.rest id here))
      | inr rest ↦ came_after R (held_inputs round) others id (came_in_rounds M rounds id rest)
    ]

pub metadata_comes : MetadataComes
metadata_comes R id rounds d new some are low enough = elim (cases_Bool (comes_in R id rounds)) [
  | inl come ↦ came_in_rounds R rounds id come
  | inr none ↦ absurd (omega (arith, enough, few_held R id rounds d new some are none (low_first rounds R.mib.nak.limit low)))
]

-- ---- until the session is closed

abbrev AllLow : List HeldRound → FirstRound → Bool → List EitherRound → Mib → Type 0
AllLow held first is_lost rounds mib =
    (AreHeldBelow held × AreBelowAll rounds)
    ⊎ ((lost_while_held held < mib.nak.limit) × (lost_in_all first is_lost rounds < mib.nak.limit) × (lost_in_all first is_lost rounds < mib.ack.limit))

low_held : (held : List HeldRound) (first : FirstRound) (is_lost : Bool) (rounds : List EitherRound) (mib : Mib) →
    AllLow held first is_lost rounds mib → Low held 0 mib.nak.limit
low_held held first is_lost rounds mib (inl below) = inl below.0
low_held held first is_lost rounds mib (inr room) = inr (omega (arith, room.0))

low_later : (held : List HeldRound) (first : FirstRound) (is_lost : Bool) (rounds : List EitherRound) (spare : ℕ) (mib now : Mib) → mib ≡ now → spare ≡ 0 →
    AllLow held first is_lost rounds mib →
    AreBelowAll rounds ⊎ ((lost_in_all first is_lost rounds + spare < now.nak.limit) × (lost_in_all first is_lost rounds < now.ack.limit))
low_later held first is_lost rounds spare mib now same none (inl below) = inl below.1
low_later held first is_lost rounds spare mib now same none (inr room) =
    inr (
      subst (λ (m : Mib). lost_in_all first is_lost rounds + spare < m.nak.limit) same (omega (arith, room.1, none)),
      subst (λ (m : Mib). lost_in_all first is_lost rounds < m.ack.limit) same room.2,
    )

pub closed_from_held : OnlyTakeRemoves → TakeRemoves → NextIsSound → NextIsPromised → WholeAfterLosses → ClosedFromHeld
closed_from_held only_take takes next_sound promised whole R id held before moment h m first is_lost rounds e eof
    sound d known new some are none opening r watched later low enough =
    let laws : Laws = record { only_take = only_take; takes = takes } in
    let inputs = until_metadata held before in
    let S = after_all R inputs in
    let known_then = known_all laws next_sound promised R inputs sound d known in
    let opens : MetadataOpens S id h = subst (Opens S id) opening r.opens in
    let there = ap (λ (i : Input). entry_of (after_input S i).world id) (sym opening) ∙ r.awaits.core.here in
    let spare : spare_round e.received ≡ 0 = ap spare_round (nothing_kept S id moment h m known_then opens e there) in
    let few = few_held R id held d new some are none (low_held held first is_lost rounds R.mib low) in
    let same = mib_all R inputs in
    closed_after R inputs (first.opening ∷ first.rest ++ flat_map inputs_of rounds) id
    (closed_in_all only_take takes next_sound promised whole S id first is_lost rounds e eof
    (sound_all next_sound R inputs sound) (distinct_all R inputs d) known_then
    (subst (λ (mib : Mib). 1 ≤ most_nak_requests mib) (sym same) some) r watched later
    (low_later held first is_lost rounds (spare_round e.received) R.mib S.mib (sym same) spare low)
    (omega (arith, enough, few, spare)))
