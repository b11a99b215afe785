-- A transaction in acknowledged mode that waits for octets, and what comes to the receiver (CCSDS 727.0-B-5, lost
-- segment procedures).
--     awaits_octets R id        the core's entry is in Awaiting
--     EntryAwaits W id e eof    its EOF PDU came, octets below that size are missing, and its file may have that size
--     TransactionAwaits         its session is known too, and in acknowledged mode
--     breaks_off R id i         the sender or the user cancels it, or its NAK limit is reached and not ignored
--     GoesOn R id inputs        none of them does so, as long as it waits
--     piece_in, pieces_in       the pieces that its File Data PDUs bring, in order
--     IsDelivered W id          the file is complete, or its checksum is wrong
--     WasDelivered R inputs id  so it is after some of the inputs
--     AnsweredTurns             once every missing octet came, and no piece was passed over, it was delivered
--     is_kept_apart, AreKeptApart       no item of it is performed either, whether it waits or not
--     StaysDelivered            then it is delivered after all of the inputs
--     AwaitingAwaits            what an entry in Awaiting is, whatever came before
use Rattle.std.specs.Prelude.{◌≡◌, ⊤, ◌⊎◌, ℕ, ◌+◌, ◌≤◌, Bool, true, false, not, ◌&&◌, ◌==◌, if◌then◌else◌, List, [], ◌∷◌, ◌++◌, length, Option, Some, None}
use Rattle.std.specs.List.{AllByRecursion}
use Rattle.cfdp_status.specs.declared.transaction.TransactionId.{TransactionId}
use Rattle.cfdp_leases.specs.Leases.{is_same}
use Rattle.cfdp_pdus.specs.declared.eof.Eof.{Eof}
use Rattle.cfdp_pdus.specs.Codes.{no_error, file_checksum_failure}
use Rattle.cfdp_retransmission.specs.Coming.{Piece, AreAllKept, BringsMissing}
use Rattle.cfdp_sessions.specs.Sessions.{SessionFields, session_id, AreDistinct}
use Rattle.cfdp_sessions.specs.declared.session.Stage.TheVariants.{Known}
use Rattle.cfdp_transactions.specs.Entry.{Entry, id_of, is_awaiting}
use Rattle.cfdp_transactions.specs.Received.{is_whole}
use Rattle.cfdp_transactions.specs.declared.phase.Phase.TheVariants.{Awaiting, Executing, Ended}
use Rattle.cfdp_transactions.specs.Sound.{Sound}
use Rattle.cfdp_transactions.specs.World.{World, bound, entry_of, next_runnable}
use Rattle.cfdp_receiver.specs.declared.mib.Handler.{Handler}
use Rattle.cfdp_receiver.specs.declared.mib.Handler.TheVariants as handlers
use Rattle.cfdp_receiver.specs.declared.mib.Mib.{Mib}
use Rattle.cfdp_receiver.specs.State.{State, begin, Input, DataPdu, EofPdu, Expire, Work, CancelAsked, session_of}
use Rattle.cfdp_receiver.specs.Due.{Due, Stage_due, first_due}
use Rattle.cfdp_receiver.specs.Handing.{is_ours, later}
use Rattle.cfdp_receiver.specs.Turning.{after_input, after_all}
use Rattle.cfdp_receiver.specs.Laws.{touched}

abbrev pub is_awaiting_entry : Option Entry → Bool
is_awaiting_entry None = false
is_awaiting_entry (Some entry) = is_awaiting entry.phase

abbrev pub awaits_octets : State → TransactionId → Bool
awaits_octets R id = is_awaiting_entry (entry_of R.world id)

pub record EntryAwaits (W : World) (id : TransactionId) (entry : Entry) (eof : Eof) : Type 0 where
  pub checks : ℕ
  pub here : entry_of W id ≡ Some entry
  pub phase : entry.phase ≡ Awaiting checks
  pub came : entry.eof ≡ Some eof
  pub within : eof.size ≤ bound W.config entry.metadata
  pub short : is_whole eof.size entry.received ≡ false

pub record TransactionAwaits (R : State) (id : TransactionId) (entry : Entry) (eof : Eof) : Type 0 where
  pub session : SessionFields
  pub here : session_of R id ≡ Some session
  pub known : session.stage ≡ Known
  pub acknowledged : session.header.acknowledged ≡ true
  pub core : EntryAwaits R.world id entry eof

-- ---- what comes

abbrev pub is_ignoring : Handler → Bool
is_ignoring handlers.Ignore = true
is_ignoring handler = false

-- the NAK limit is reached, and not ignored
abbrev pub is_given_up : Mib → TransactionId → Due → Bool
is_given_up mib id (Stage_due s true) = is_same (session_id s) id && not (is_ignoring mib.nak.at_limit)
is_given_up mib id due = false

abbrev pub breaks_off : State → TransactionId → Input → Bool
breaks_off R id (EofPdu now h eof) = is_same (id_of h) id && not (eof.condition == no_error)
breaks_off R id (CancelAsked now other) = is_same other id
breaks_off R id (Expire now) = is_given_up R.mib id (first_due (later now R) R.sessions)
breaks_off R id i = false

abbrev pub GoesOn : State → TransactionId → List Input → Type 0
GoesOn R id [] = ⊤
GoesOn R id (i ∷ is) = (awaits_octets R id ≡ true → breaks_off R id i ≡ false) × GoesOn (after_input R i) id is

abbrev pub piece_in : State → TransactionId → Input → List Piece
piece_in R id (DataPdu now h piece) =
    if is_ours R h && is_same (id_of h) id then (piece.offset, piece.octets) ∷ [] else []
piece_in R id i = []

abbrev pub pieces_in : State → TransactionId → List Input → List Piece
pieces_in R id [] = []
pieces_in R id (i ∷ is) = piece_in R id i ++ pieces_in (after_input R i) id is

-- ---- what becomes of it

-- all octets are there, and its items are next; or they have another checksum
pub record IsDelivered (W : World) (id : TransactionId) : Type 0 where
  pub entry : Entry
  pub here : entry_of W id ≡ Some entry
  pub phase : (entry.phase ≡ Executing 0) ⊎ (entry.phase ≡ Ended file_checksum_failure)

pub record WasDelivered (R : State) (inputs : List Input) (id : TransactionId) : Type 0 where
  pub front : List Input
  pub back : List Input
  pub parts : inputs ≡ front ++ back
  pub delivered : IsDelivered (after_all R front).world id

-- none of the pieces ends after the file does
abbrev pub AnsweredTurns : Type 0
AnsweredTurns =
    (R : State) (inputs : List Input) (id : TransactionId) (entry : Entry) (eof : Eof) →
    Sound R.world → AreDistinct R.sessions → TransactionAwaits R id entry eof → GoesOn R id inputs →
    AllByRecursion (λ p. p.0 + length p.1 ≤ eof.size) (pieces_in R id inputs) →
    AreAllKept entry.received (pieces_in R id inputs) → BringsMissing eof.size entry.received (pieces_in R id inputs) →
    WasDelivered R inputs id

abbrev pub is_named : TransactionId → Option TransactionId → Bool
is_named id None = false
is_named id (Some other) = is_same other id

abbrev pub is_kept_apart : State → TransactionId → Input → Bool
is_kept_apart R id (DataPdu now h piece) = true
is_kept_apart R id (Work now) = not (is_named id (next_runnable R.world.table))
is_kept_apart R id i = not (is_same (touched R i) id)

abbrev pub AreKeptApart : State → TransactionId → List Input → Type 0
AreKeptApart R id [] = ⊤
AreKeptApart R id (i ∷ is) = (is_kept_apart R id i ≡ true) × AreKeptApart (after_input R i) id is

abbrev pub StaysDelivered : Type 0
StaysDelivered =
    (R : State) (inputs : List Input) (id : TransactionId) →
    Sound R.world → WasDelivered R inputs id → AreKeptApart R id inputs → IsDelivered (after_all R inputs).world id

-- over an entity that begins without transactions
abbrev pub AwaitingAwaits : Type 0
AwaitingAwaits =
    (mib : Mib) (W : World) (inputs : List Input) (id : TransactionId) (session : SessionFields) (entry : Entry)
    (checks : ℕ) →
    Sound W → W.table ≡ [] →
    session_of (after_all (begin mib W) inputs) id ≡ Some session → session.header.acknowledged ≡ true →
    entry_of (after_all (begin mib W) inputs).world id ≡ Some entry → entry.phase ≡ Awaiting checks →
    (eof : Eof) × TransactionAwaits (after_all (begin mib W) inputs) id entry eof
