-- Rounds in which a Finished PDU is sent and acknowledged, and a channel loses PDUs (CCSDS 727.0-B-5, the positive
-- acknowledgement procedures).
--     acknowledges R id i       an ACK PDU of the transaction's Finished PDU
--     is_acknowledged R id inputs       one of the inputs is that
--     is_sent_again R id i      the ACK timer of its session is served
--     IsSentOnce R id inputs    it is not, as long as the session waits
--     IsAcknowledgedUnless is_lost R id rest    a Finished PDU that was sent is acknowledged in `rest`, or it is lost
--     FinishedRound, AreFinishedRounds  rounds that begin when the ACK timer is served, as long as the session waits
--     WasClosed R inputs id     after some of the inputs the session is closed
--     ClosedAfterLosses         so it is after one round more than were lost
use Rattle.std.specs.Prelude.{◌≡◌, ⊤, ◌⊎◌, ℕ, ◌+◌, ◌<◌, Bool, true, false, ◌&&◌, ◌||◌, ◌==◌, List, [], ◌∷◌, ◌++◌, length, Some, None}
use Rattle.std.specs.List.{AllByRecursion, flat_map}
use Rattle.cfdp_status.specs.declared.transaction.TransactionId.{TransactionId}
use Rattle.cfdp_leases.specs.Leases.{is_same}
use Rattle.cfdp_pdus.specs.Codes.{finished_code}
use Rattle.cfdp_pdus.specs.Bits.{one_if}
use Rattle.cfdp_sessions.specs.Sessions.{SessionFields, session_id, AreDistinct}
use Rattle.cfdp_sessions.specs.declared.session.Stage.TheVariants.{Waiting}
use Rattle.cfdp_transactions.specs.Entry.{id_of}
use Rattle.cfdp_receiver.specs.State.{State, Input, AckPdu, Expire, session_of, is_closed}
use Rattle.cfdp_receiver.specs.Due.{Due, Stage_due, first_due}
use Rattle.cfdp_receiver.specs.Handing.{is_ours, later}
use Rattle.cfdp_receiver.specs.Turning.{after_input, after_all}
use Rattle.cfdp_receiver.specs.Laws.{waits_in}
use Rattle.cfdp_progress.specs.NakRounds.{IsServed}

abbrev pub acknowledges : State → TransactionId → Input → Bool
acknowledges R id (AckPdu now h ack) = is_ours R h && (is_same (id_of h) id && (ack.directive == finished_code))
acknowledges R id i = false

abbrev pub is_acknowledged : State → TransactionId → List Input → Bool
is_acknowledged R id [] = false
is_acknowledged R id (i ∷ is) = acknowledges R id i || is_acknowledged (after_input R i) id is

abbrev pub is_timer_of : TransactionId → Due → Bool
is_timer_of id (Stage_due s is_at_limit) = is_same (session_id s) id
is_timer_of id due = false

abbrev pub is_sent_again : State → TransactionId → Input → Bool
is_sent_again R id (Expire now) = is_timer_of id (first_due (later now R) R.sessions)
is_sent_again R id i = false

abbrev pub IsSentOnce : State → TransactionId → List Input → Type 0
IsSentOnce R id [] = ⊤
IsSentOnce R id (i ∷ is) =
    (waits_in (session_of R id) ≡ true → is_sent_again R id i ≡ false) × IsSentOnce (after_input R i) id is

-- R is the state after the input whose answer had the Finished PDU
pub record IsAcknowledgedUnless (is_lost : Bool) (R : State) (id : TransactionId) (rest : List Input) : Type 0 where
  pub comes : is_lost ≡ false → is_acknowledged R id rest ≡ true
  pub once : IsSentOnce R id rest

pub record FinishedRound : Type 0 where
  pub moment : ℕ
  pub is_at_limit : Bool  -- the expiry reaches the ACK limit
  pub is_lost : Bool  -- the Finished PDU, or its acknowledgement
  pub rest : List Input

abbrev pub finished_inputs : FinishedRound → List Input
finished_inputs round = Expire round.moment ∷ round.rest

pub record IsFinishedRound (R : State) (id : TransactionId) (round : FinishedRound) : Type 0 where
  pub served : IsServed R id round.moment round.is_at_limit
  pub answered : IsAcknowledgedUnless round.is_lost (after_input R (Expire round.moment)) id round.rest

abbrev pub AreFinishedRounds : State → TransactionId → List FinishedRound → Type 0
AreFinishedRounds R id [] = ⊤
AreFinishedRounds R id (round ∷ rounds) =
    (waits_in (session_of R id) ≡ true → IsFinishedRound R id round)
    × AreFinishedRounds (after_all R (finished_inputs round)) id rounds

abbrev pub rounds_lost : List FinishedRound → ℕ
rounds_lost [] = 0
rounds_lost (round ∷ rounds) = one_if round.is_lost + rounds_lost rounds

pub record WasClosed (R : State) (inputs : List Input) (id : TransactionId) : Type 0 where
  pub front : List Input
  pub back : List Input
  pub parts : inputs ≡ front ++ back
  pub gone : session_of (after_all R front) id ≡ None
  pub remembered : is_closed (after_all R front) id ≡ true

-- the Finished PDU was sent, and the first round is under way. The ACK limit is above what is lost; or each later round
-- begins below it
abbrev pub ClosedAfterLosses : Type 0
ClosedAfterLosses =
    (R : State) (id : TransactionId) (session : SessionFields) (is_lost : Bool) (rest : List Input)
    (rounds : List FinishedRound) →
    AreDistinct R.sessions → session_of R id ≡ Some session → session.stage ≡ Waiting →
    IsAcknowledgedUnless is_lost R id rest → AreFinishedRounds (after_all R rest) id rounds →
    AllByRecursion (λ round. round.is_at_limit ≡ false) rounds
    ⊎ (session.timer.count + one_if is_lost + rounds_lost rounds < R.mib.ack.limit) →
    one_if is_lost + rounds_lost rounds < 1 + length rounds → WasClosed R (rest ++ flat_map finished_inputs rounds) id
