-- Rounds of a receiver's turns: it asks for what is missing, a sender answers in the order of the requests, and a
-- channel loses pieces and NAK PDUs (CCSDS 727.0-B-5, lost segment procedures).
--     asks_again R id i         the NAK timer of its session is served below the limit, so NAK PDUs are sent
--     IsAskedOnce R id inputs   this does not happen, as long as it waits
--     requests_of_each naks     the requests of each of several NAK PDUs
--     AreAnswered R id naks exchange rest   the sender answers those of the NAK PDUs that it gets, each request in its
--                               turn; the pieces that are not lost are in `rest`. So are those of a second
--                               answer, as where NAK PDUs for the Metadata PDU asked for the file, too
--     IsServed R id moment is_at_limit  the timer of the transaction's session is the first that is due
--     NakRound                  a round that begins when the NAK timer is served
--     AreNakRounds R id rounds  each of several is one, as long as the transaction waits for octets
--     AreBelow rounds           the timer is below its limit when each of them begins
--     all_lost rounds           how much is lost in several: pieces, and 1 more in each in which NAK PDUs are lost
--     DeliveredAfterRounds      after one round more than was lost, and the spare one, the file was delivered
--     Opens R id i              the EOF PDU comes, or the Metadata PDU where the EOF PDU came before it
--     naks_of_opening R i entry     the NAK PDUs that the sender answers then
--     FirstRound, IsFirstRound  the round that begins so, where octets are missing
--     lost_from first rounds    how much is lost in this one and later ones
--     DeliveredAfterLosses      the same, with this round
use Rattle.std.specs.Prelude.{◌≡◌, ⊤, ◌⊎◌, ℕ, ◌+◌, ◌≤◌, ◌<◌, Bool, true, false, List, [], ◌∷◌, ◌++◌, map, length, Some}
use Rattle.std.specs.List.{AllByRecursion, flat_map}
use Rattle.cfdp_status.specs.declared.transaction.TransactionId.{TransactionId}
use Rattle.cfdp_leases.specs.Leases.{is_same}
use Rattle.cfdp_pdus.specs.declared.eof.Eof.{Eof}
use Rattle.cfdp_pdus.specs.Codes.{no_error}
use Rattle.cfdp_pdus.specs.declared.header.Header.{Header}
use Rattle.cfdp_directives.specs.Reading.{NakFields}
use Rattle.cfdp_retransmission.specs.Naks.{SegmentRequest}
use Rattle.cfdp_retransmission.specs.Rounds.{Exchange, IsExchange, arrived, lost_of, spare_round}
use Rattle.cfdp_sessions.specs.Sessions.{SessionFields, session_id, AreDistinct}
use Rattle.cfdp_sessions.specs.declared.session.Stage.TheVariants.{Held, Known}
use Rattle.cfdp_transactions.specs.Entry.{Entry, id_of, reach}
use Rattle.cfdp_transactions.specs.Sound.{Sound}
use Rattle.cfdp_receiver.specs.declared.joint_phase.JointPhase.TheVariants.{Receiving as At_receiving}
use Rattle.cfdp_receiver.specs.State.{State, Input, MetadataPdu, EofPdu, Expire, session_of, at_of}
use Rattle.cfdp_receiver.specs.Due.{Due, Stage_due, first_due}
use Rattle.cfdp_receiver.specs.Handing.{is_ours, later}
use Rattle.cfdp_receiver.specs.Turning.{most_nak_requests, sequence, gaps_after, parts, after_input, after_all}
use Rattle.cfdp_progress.specs.Awaiting.{awaits_octets, TransactionAwaits, GoesOn, pieces_in, WasDelivered}

abbrev pub is_asking : TransactionId → Due → Bool
is_asking id (Stage_due s false) = is_same (session_id s) id
is_asking id due = false

-- its NAK timer is served below the limit
abbrev pub asks_again : State → TransactionId → Input → Bool
asks_again R id (Expire now) = is_asking id (first_due (later now R) R.sessions)
asks_again R id i = false

-- not before the next round, as long as it waits
abbrev pub IsAskedOnce : State → TransactionId → List Input → Type 0
IsAskedOnce R id [] = ⊤
IsAskedOnce R id (i ∷ is) = (awaits_octets R id ≡ true → asks_again R id i ≡ false) × IsAskedOnce
    (after_input R i) id is

abbrev pub requests_of_each : List NakFields → List (List SegmentRequest)
requests_of_each naks = map (λ nak. nak.requests) naks

-- R is the state after the input whose answer had the NAK PDUs
pub record AreAnswered (R : State) (id : TransactionId) (naks : List NakFields) (exchange : Exchange)
    (rest : List Input) : Type 0 where
  pub exchanged : IsExchange (requests_of_each naks) exchange
  pub come : pieces_in R id rest ≡ arrived exchange.sent ++ arrived exchange.sent_again
  pub goes_on : GoesOn R id rest
  pub once : IsAskedOnce R id rest

-- ---- a round that an expiry begins

pub record IsServed (R : State) (id : TransactionId) (moment : ℕ) (is_at_limit : Bool) : Type 0 where
  pub session : SessionFields
  pub due : first_due (later moment R) R.sessions ≡ Stage_due session is_at_limit
  pub named : session_id session ≡ id

pub record NakRound : Type 0 where
  pub moment : ℕ
  pub is_at_limit : Bool  -- the expiry reaches the NAK limit
  pub exchange : Exchange
  pub rest : List Input

abbrev pub round_inputs : NakRound → List Input
round_inputs round = Expire round.moment ∷ round.rest

pub record IsNakRound (R : State) (id : TransactionId) (round : NakRound) : Type 0 where
  pub served : IsServed R id round.moment round.is_at_limit
  pub answered : AreAnswered (after_input R (Expire round.moment)) id
      (parts R (Expire round.moment)).answer.naks round.exchange round.rest

abbrev pub AreNakRounds : State → TransactionId → List NakRound → Type 0
AreNakRounds R id [] = ⊤
AreNakRounds R id (round ∷ rounds) =
    (awaits_octets R id ≡ true → IsNakRound R id round) × AreNakRounds (after_all R (round_inputs round)) id rounds

abbrev pub AreBelow : List NakRound → Type 0
AreBelow rounds = AllByRecursion (λ round. round.is_at_limit ≡ false) rounds

abbrev pub all_lost : List NakRound → ℕ
all_lost [] = 0
all_lost (round ∷ rounds) = lost_of round.exchange + all_lost rounds

abbrev pub all_inputs : List NakRound → List Input
all_inputs rounds = flat_map round_inputs rounds

-- from a moment at which the transaction waits
abbrev pub DeliveredAfterRounds : Type 0
DeliveredAfterRounds =
    (R : State) (id : TransactionId) (rounds : List NakRound) (entry : Entry) (eof : Eof) →
    Sound R.world → AreDistinct R.sessions → 1 ≤ most_nak_requests R.mib → TransactionAwaits R id entry eof →
    AreNakRounds R id rounds → AreBelow rounds → all_lost rounds + spare_round entry.received < length rounds →
    WasDelivered R (all_inputs rounds) id

-- ---- the round in which octets are asked for first

-- the EOF PDU comes while file data is taken
pub record EofOpens (R : State) (id : TransactionId) (header : Header) (eof : Eof) : Type 0 where
  pub ours : is_ours R header ≡ true
  pub named : id_of header ≡ id
  pub no_error : eof.condition ≡ no_error
  pub session : SessionFields
  pub here : session_of R id ≡ Some session
  pub known : session.stage ≡ Known
  pub receiving : at_of R.world session ≡ At_receiving

-- the Metadata PDU comes, and the EOF PDU came before it
pub record MetadataOpens (R : State) (id : TransactionId) (header : Header) : Type 0 where
  pub ours : is_ours R header ≡ true
  pub named : id_of header ≡ id
  pub mode : header.acknowledged ≡ true
  pub session : SessionFields
  pub here : session_of R id ≡ Some session
  pub eof : Eof
  pub held : session.stage ≡ Held eof

abbrev pub Opens : State → TransactionId → Input → Type 0
Opens R id (EofPdu now header eof) = EofOpens R id header eof
Opens R id (MetadataPdu now header metadata) = MetadataOpens R id header
Opens R id i = ⊥

pub record FirstRound : Type 0 where
  pub opening : Input
  pub exchange : Exchange
  pub rest : List Input

-- the NAK PDUs that the sender answers in it: those of the answer to the EOF PDU. The Metadata PDU asks for nothing,
-- since the NAK PDUs that asked for it asked for the whole file, too: then what these asked for besides it, which is
-- all that is missing
abbrev pub naks_of_opening : State → Input → Entry → List NakFields
naks_of_opening R (MetadataPdu now header metadata) entry =
    sequence R.mib header 0 (reach entry) (gaps_after 0 entry)
naks_of_opening R i entry = (parts R i).answer.naks

-- `entry` and `eof` are those after the input that opens it
pub record IsFirstRound (R : State) (id : TransactionId) (round : FirstRound) (entry : Entry) (eof : Eof) : Type 0 where
  pub opens : Opens R id round.opening
  pub awaits : TransactionAwaits (after_input R round.opening) id entry eof
  pub answered : AreAnswered (after_input R round.opening) id
      (naks_of_opening R round.opening entry) round.exchange round.rest

-- in all rounds
abbrev pub lost_from : FirstRound → List NakRound → ℕ
lost_from first rounds = lost_of first.exchange + all_lost rounds

-- the NAK limit is above what is lost; or each later round begins below it, as where it is ignored
abbrev pub DeliveredAfterLosses : Type 0
DeliveredAfterLosses =
    (R : State) (id : TransactionId) (first : FirstRound) (rounds : List NakRound) (entry : Entry) (eof : Eof) →
    Sound R.world → AreDistinct R.sessions → 1 ≤ most_nak_requests R.mib → IsFirstRound R id first entry eof →
    AreNakRounds (after_all R (first.opening ∷ first.rest)) id rounds →
    AreBelow rounds ⊎ (lost_from first rounds + spare_round entry.received < R.mib.nak.limit) →
    lost_from first rounds + spare_round entry.received < 1 + length rounds →
    WasDelivered R (first.opening ∷ first.rest ++ all_inputs rounds) id
