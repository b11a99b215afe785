-- Rounds of a receiver's turns while an EOF PDU is held: it came before its Metadata PDU, for which the NAK PDUs ask
-- (CCSDS 727.0-B-5, lost segment procedures). File data that comes before the Metadata PDU is not kept.
--     holds_eof R id            the session of the transaction holds its EOF PDU
--     EofHolds R id header eof  the EOF PDU comes and begins such a session
--     BeginsHeldRound R id is_at_limit i a round begins: the EOF PDU comes so, or the NAK timer of the session is
--     served
--     asks_first naks           the first of these NAK PDUs asks for the Metadata PDU
--     joins_held R id i         the Metadata PDU comes while the EOF PDU is held
--     comes R id inputs         one of the inputs is that
--     StaysHeld R id inputs     as long as the EOF PDU is held, nothing breaks the transaction off, and its NAK timer
--                               is not served below the limit
--     HeldRound, IsHeldRound    a round in which a sender that gets the first NAK PDU answers it with the Metadata PDU
--     AreHeldRounds R id rounds         each of several is one, until the Metadata PDU comes
--     comes_in R id rounds      it comes in one of them
--     lost_while_held rounds    in how many of them the first NAK PDU or the Metadata PDU is lost
--     MetadataCame R inputs id  one of the inputs is the Metadata PDU, and the EOF PDU is held until then
--     MetadataComes             so it is after one round more than are lost
--     until_metadata, at_metadata       what comes before the Metadata PDU;  the state when it comes
--     ClosedFromHeld            after one round more than is lost in all, from the EOF PDU on, the session is closed
use Rattle.std.specs.Prelude.{◌≡◌, ⊤, ◌⊎◌, ℕ, ◌+◌, ◌≤◌, ◌<◌, Bool, true, false, ◌&&◌, ◌||◌, nat_lt, List, [], ◌∷◌, ◌++◌, length, Option, Some, None}
use Rattle.std.specs.List.{AllByRecursion, flat_map}
use Rattle.cfdp_status.specs.declared.transaction.TransactionId.{TransactionId}
use Rattle.cfdp_leases.specs.Leases.{is_same}
use Rattle.cfdp_pdus.specs.Values.{MetadataFields}
use Rattle.cfdp_pdus.specs.declared.eof.Eof.{Eof}
use Rattle.cfdp_pdus.specs.Codes.{no_error}
use Rattle.cfdp_pdus.specs.declared.header.Header.{Header}
use Rattle.cfdp_pdus.specs.Bits.{one_if}
use Rattle.cfdp_directives.specs.Reading.{NakFields}
use Rattle.cfdp_sessions.specs.Sessions.{SessionFields, AreDistinct}
use Rattle.cfdp_sessions.specs.declared.session.Stage.{Stage}
use Rattle.cfdp_sessions.specs.declared.session.Stage.TheVariants.{Held}
use Rattle.cfdp_transactions.specs.Entry.{Entry, id_of}
use Rattle.cfdp_transactions.specs.Sound.{Sound}
use Rattle.cfdp_receiver.specs.State.{State, Input, MetadataPdu, EofPdu, Expire, session_of, is_closed, lacks_room}
use Rattle.cfdp_receiver.specs.Handing.{is_ours}
use Rattle.cfdp_receiver.specs.Turning.{most_nak_requests, parts, after_input, after_all}
use Rattle.cfdp_receiver.specs.Laws.{asks_metadata, AreKnown}
use Rattle.cfdp_progress.specs.Awaiting.{breaks_off}
use Rattle.cfdp_progress.specs.Closing.{WasClosed}
use Rattle.cfdp_progress.specs.InAll.{EitherRound, inputs_of, IsWatched, AreEitherRounds, lost_in_all}
use Rattle.cfdp_progress.specs.NakRounds.{asks_again, IsServed, MetadataOpens, FirstRound, IsFirstRound}

abbrev pub is_eof_held : Stage → Bool
is_eof_held (Held eof) = true
is_eof_held stage = false

abbrev pub holds_in : Option SessionFields → Bool
holds_in None = false
holds_in (Some session) = is_eof_held session.stage

abbrev pub holds_eof : State → TransactionId → Bool
holds_eof R id = holds_in (session_of R id)

-- ---- what begins a round

pub record EofHolds (R : State) (id : TransactionId) (header : Header) (eof : Eof) : Type 0 where
  pub ours : is_ours R header ≡ true
  pub named : id_of header ≡ id
  pub mode : header.acknowledged ≡ true
  pub no_error : eof.condition ≡ no_error
  pub none : session_of R id ≡ None
  pub not_closed : is_closed R id ≡ false
  pub has_room : lacks_room R id ≡ false

abbrev pub BeginsHeldRound : State → TransactionId → Bool → Input → Type 0
BeginsHeldRound R id is_at_limit (EofPdu now header eof) = EofHolds R id header eof
BeginsHeldRound R id is_at_limit (Expire now) = IsServed R id now is_at_limit
BeginsHeldRound R id is_at_limit i = ⊥

-- ---- what comes then

abbrev pub asks_first : List NakFields → Bool
asks_first [] = false
asks_first (nak ∷ naks) = nat_lt 0 (asks_metadata nak.requests)

abbrev pub joins_held : State → TransactionId → Input → Bool
joins_held R id (MetadataPdu now h m) = is_ours R h && (is_same (id_of h) id && (h.acknowledged && holds_eof R id))
joins_held R id i = false

abbrev pub comes : State → TransactionId → List Input → Bool
comes R id [] = false
comes R id (i ∷ is) = joins_held R id i || comes (after_input R i) id is

abbrev pub StaysHeld : State → TransactionId → List Input → Type 0
StaysHeld R id [] = ⊤
StaysHeld R id (i ∷ is) =
    (holds_eof R id ≡ true → (breaks_off R id i ≡ false) × (asks_again R id i ≡ false)) × StaysHeld
    (after_input R i) id is

-- ---- rounds

pub record HeldRound : Type 0 where
  pub opening : Input
  pub is_at_limit : Bool  -- an expiry that reaches the NAK limit
  pub is_lost : Bool  -- the first NAK PDU, or the Metadata PDU that answers it
  pub rest : List Input

abbrev pub held_inputs : HeldRound → List Input
held_inputs round = round.opening ∷ round.rest

pub record IsHeldRound (R : State) (id : TransactionId) (round : HeldRound) : Type 0 where
  pub begins : BeginsHeldRound R id round.is_at_limit round.opening
  pub goes_on : StaysHeld (after_input R round.opening) id round.rest
  pub answered : asks_first (parts R round.opening).answer.naks ≡ true → round.is_lost ≡ false →
      comes (after_input R round.opening) id round.rest ≡ true

abbrev pub AreHeldRounds : State → TransactionId → List HeldRound → Type 0
AreHeldRounds R id [] = ⊤
AreHeldRounds R id (round ∷ rounds) =
    IsHeldRound R id round
    × (comes (after_input R round.opening) id round.rest ≡ false → AreHeldRounds
    (after_all R (held_inputs round)) id rounds)

abbrev pub comes_in : State → TransactionId → List HeldRound → Bool
comes_in R id [] = false
comes_in R id (round ∷ rounds) =
    comes (after_input R round.opening) id round.rest || comes_in (after_all R (held_inputs round)) id rounds

abbrev pub lost_while_held : List HeldRound → ℕ
lost_while_held [] = 0
lost_while_held (round ∷ rounds) = one_if round.is_lost + lost_while_held rounds

abbrev pub AreHeldBelow : List HeldRound → Type 0
AreHeldBelow rounds = AllByRecursion (λ round. round.is_at_limit ≡ false) rounds

pub record MetadataCame (R : State) (inputs : List Input) (id : TransactionId) : Type 0 where
  pub front : List Input
  pub moment : ℕ
  pub header : Header
  pub metadata : MetadataFields
  pub back : List Input
  pub parts : inputs ≡ front ++ MetadataPdu moment header metadata ∷ back
  pub opens : MetadataOpens (after_all R front) id header

-- the NAK limit is above what is lost; or each round begins below it, as where it is ignored
abbrev pub MetadataComes : Type 0
MetadataComes =
    (R : State) (id : TransactionId) (rounds : List HeldRound) →
    AreDistinct R.sessions → session_of R id ≡ None → 1 ≤ most_nak_requests R.mib → AreHeldRounds R id rounds →
    AreHeldBelow rounds ⊎ (lost_while_held rounds < R.mib.nak.limit) → lost_while_held rounds < length rounds →
    MetadataCame R (flat_map held_inputs rounds) id

-- the rounds in which it does not come, and what comes before it in the next one
abbrev pub until_metadata : List HeldRound → List Input → List Input
until_metadata held before = flat_map held_inputs held ++ before

abbrev pub at_metadata : State → List HeldRound → List Input → State
at_metadata R held before = after_all R (until_metadata held before)

-- the Metadata PDU begins the first round in which octets of the file are asked for. No spare round is needed, since
-- nothing of the file is there then. The NAK limit is above what is lost before it and above what is lost after it, the
-- ACK limit above the latter; or each round begins below them
abbrev pub ClosedFromHeld : Type 0
ClosedFromHeld =
    (R : State) (id : TransactionId) (held : List HeldRound) (before : List Input)
    (moment : ℕ) (header : Header) (metadata : MetadataFields) (first : FirstRound) (is_lost : Bool)
    (rounds : List EitherRound) (entry : Entry) (eof : Eof) →
    Sound R.world → AreDistinct R.sessions → AreKnown R → session_of R id ≡ None → 1 ≤ most_nak_requests R.mib →
    AreHeldRounds R id held → comes_in R id held ≡ false → first.opening ≡ MetadataPdu moment header metadata →
    IsFirstRound (at_metadata R held before) id first entry eof →
    IsWatched is_lost (after_input (at_metadata R held before) first.opening) id first.rest →
    AreEitherRounds (after_all (at_metadata R held before) (first.opening ∷ first.rest)) id rounds →
    (AreHeldBelow held × AllByRecursion (λ round. round.is_at_limit ≡ false) rounds)
    ⊎ ((lost_while_held held < R.mib.nak.limit) × (lost_in_all first is_lost rounds < R.mib.nak.limit)
    × (lost_in_all first is_lost rounds < R.mib.ack.limit)) →
    lost_while_held held + lost_in_all first is_lost rounds < length held + 1 + length rounds →
    WasClosed R (until_metadata held before ++ (first.opening ∷ first.rest ++ flat_map inputs_of rounds)) id
