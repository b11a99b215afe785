-- A transaction from its EOF PDU on until its session is closed: it asks for octets until its file is delivered, and
-- then sends its Finished PDU until that is acknowledged.
--     EitherRound               a round in which NAK PDUs are sent, or a Finished PDU, or first these and then this
--     concludes R id i          the input hands out the transaction's outcome
--     IsAcknowledgedAfter is_lost R id inputs   after such an input the acknowledgement comes, unless it is lost
--     IsWatched is_lost R id rest       so it is after the input that begins a round; the ACK timer is not served
--                               before the next, and at the end nothing is left to be performed or handed out
--     AreEitherRounds R id rounds       each of several is of the kind that the transaction then needs
--     total_lost, lost_in_all   how much is lost in them;  in the first round too
--     ClosedInAll               after one round more than are lost, and the spare one, the session is closed
use Rattle.std.specs.Prelude.{◌≡◌, ⊤, ◌⊎◌, ℕ, ◌+◌, ◌≤◌, ◌<◌, Bool, true, false, List, [], ◌∷◌, ◌++◌, length, Option, Some, None}
use Rattle.std.specs.List.{AllByRecursion, flat_map}
use Rattle.cfdp_status.specs.declared.transaction.TransactionId.{TransactionId}
use Rattle.cfdp_leases.specs.Leases.{is_same}
use Rattle.cfdp_pdus.specs.declared.eof.Eof.{Eof}
use Rattle.cfdp_pdus.specs.Bits.{one_if}
use Rattle.cfdp_retransmission.specs.Rounds.{Exchange, lost_of, spare_round}
use Rattle.cfdp_sessions.specs.Sessions.{SessionFields, session_id, AreDistinct}
use Rattle.cfdp_transactions.specs.Entry.{Entry}
use Rattle.cfdp_transactions.specs.Sound.{Sound}
use Rattle.cfdp_receiver.specs.State.{State, Input, Expire, Finish, session_of}
use Rattle.cfdp_receiver.specs.Due.{first_over}
use Rattle.cfdp_receiver.specs.Turning.{most_nak_requests, after_input, after_all}
use Rattle.cfdp_receiver.specs.Laws.{waits_in, AreKnown}
use Rattle.cfdp_progress.specs.Awaiting.{awaits_octets}
use Rattle.cfdp_progress.specs.NakRounds.{NakRound, IsNakRound, FirstRound, IsFirstRound}
use Rattle.cfdp_progress.specs.Closing.{is_acknowledged, IsSentOnce, FinishedRound, IsFinishedRound, WasClosed}
use Rattle.cfdp_progress.specs.Concluding.{has_nothing_left}

pub record EitherRound : Type 0 where
  pub moment : ℕ
  pub is_at_limit : Bool  -- the expiry reaches the limit of the timer
  pub exchange : Exchange  -- where NAK PDUs are sent
  pub is_lost : Bool  -- the Finished PDU, or its acknowledgement
  pub rest : List Input

abbrev pub as_nak : EitherRound → NakRound
as_nak round = record {
  moment = round.moment;
  is_at_limit = round.is_at_limit;
  exchange = round.exchange;
  rest = round.rest;
}

abbrev pub as_finished : EitherRound → FinishedRound
as_finished round = record {
  moment = round.moment;
  is_at_limit = round.is_at_limit;
  is_lost = round.is_lost;
  rest = round.rest;
}

abbrev pub inputs_of : EitherRound → List Input
inputs_of round = Expire round.moment ∷ round.rest

abbrev pub is_session_of : TransactionId → Option SessionFields → Bool
is_session_of id None = false
is_session_of id (Some session) = is_same (session_id session) id

abbrev pub concludes : State → TransactionId → Input → Bool
concludes R id (Finish now) = is_session_of id (first_over R.world R.sessions)
concludes R id i = false

abbrev pub IsAcknowledgedAfter : Bool → State → TransactionId → List Input → Type 0
IsAcknowledgedAfter is_lost R id [] = ⊤
IsAcknowledgedAfter is_lost R id (i ∷ is) =
    (concludes R id i ≡ true → is_lost ≡ false → is_acknowledged (after_input R i) id is ≡ true)
    × IsAcknowledgedAfter is_lost (after_input R i) id is

-- R is the state after the input that begins the round
pub record IsWatched (is_lost : Bool) (R : State) (id : TransactionId) (rest : List Input) : Type 0 where
  pub acknowledged : IsAcknowledgedAfter is_lost R id rest
  pub once : IsSentOnce R id rest
  pub done : has_nothing_left (after_all R rest) ≡ true  -- the driver did all that was to be done

pub record IsEitherRound (R : State) (id : TransactionId) (round : EitherRound) : Type 0 where
  pub asks : awaits_octets R id ≡ true → IsNakRound R id (as_nak round)
  pub closes : waits_in (session_of R id) ≡ true → IsFinishedRound R id (as_finished round)
  pub watched : IsWatched round.is_lost (after_input R (Expire round.moment)) id round.rest

abbrev pub AreEitherRounds : State → TransactionId → List EitherRound → Type 0
AreEitherRounds R id [] = ⊤
AreEitherRounds R id (round ∷ rounds) =
    IsEitherRound R id round × AreEitherRounds (after_all R (inputs_of round)) id rounds

abbrev pub total_lost : List EitherRound → ℕ
total_lost [] = 0
total_lost (round ∷ rounds) = lost_of round.exchange + one_if round.is_lost + total_lost rounds

-- with the first round, of which `is_lost` says the same
abbrev pub lost_in_all : FirstRound → Bool → List EitherRound → ℕ
lost_in_all first is_lost rounds = lost_of first.exchange + one_if is_lost + total_lost rounds

-- both limits are above what is lost; or each later round begins below them
abbrev pub ClosedInAll : Type 0
ClosedInAll =
    (R : State) (id : TransactionId) (first : FirstRound) (is_lost : Bool) (rounds : List EitherRound)
    (entry : Entry) (eof : Eof) →
    Sound R.world → AreDistinct R.sessions → AreKnown R → 1 ≤ most_nak_requests R.mib →
    IsFirstRound R id first entry eof → IsWatched is_lost (after_input R first.opening) id first.rest →
    AreEitherRounds (after_all R (first.opening ∷ first.rest)) id rounds →
    AllByRecursion (λ round. round.is_at_limit ≡ false) rounds
    ⊎ ((lost_in_all first is_lost rounds + spare_round entry.received < R.mib.nak.limit)
    × (lost_in_all first is_lost rounds < R.mib.ack.limit)) →
    lost_in_all first is_lost rounds + spare_round entry.received < 1 + length rounds →
    WasClosed R (first.opening ∷ first.rest ++ flat_map inputs_of rounds) id
