-- A receiving entity: its core, and what it keeps, hears and answers beside it (CCSDS 727.0-B-5, the procedures at the
-- receiving entity).
--     State, begin mib W        the core's world, the sessions in order of beginning, the names closed last;  with no
--                               session
--     moments R                 its own time, and the latest moment by the driver's clock
--     Input, now_of             what comes;  the moment at which it comes
--     AnswerFields              what is sent, what the user is notified of, and what became of the input
--     session_of R id           the session of this name, if there is one
--     is_closed R id            the name is one of those closed last
--     is_full R                 there are 64 sessions
--     lacks_room R id           or there is no place for the source of this name
--     JointPhase, at_of W s     how far a transaction is, by its session and the core
--     status_of R id            what an ACK PDU says of the transaction (§5.2.4)
--     turned_header h           the header of a PDU that is sent: toward the sender, all else as in the PDU that came
use Rattle.std.specs.Prelude.{ℕ, Bool, true, false, not, ◌||◌, nat_le, List, [], length, Option, Some, None}
use Rattle.cfdp_status.specs.declared.transaction.TransactionId.{TransactionId}
use Rattle.cfdp_pdus.specs.Values.{MetadataFields, FileDataFields}
use Rattle.cfdp_pdus.specs.declared.header.Header.{Header}
use Rattle.cfdp_pdus.specs.declared.eof.Eof.{Eof}
use Rattle.cfdp_directives.specs.Reading.{NakFields}
use Rattle.cfdp_directives.specs.declared.ack.Ack.{Ack}
use Rattle.cfdp_directives.specs.declared.ack.TransactionStatus.{TransactionStatus}
use Rattle.cfdp_directives.specs.declared.ack.TransactionStatus.TheVariants.{Undefined, Active, Terminated, Unrecognized}
use Rattle.cfdp_directives.specs.declared.keep_alive.KeepAlive.{KeepAlive}
use Rattle.cfdp_directives.specs.declared.prompt.Prompt.{Prompt}
use Rattle.cfdp_sessions.specs.Closed.{ClosedFields, remembers, has_room_for}
use Rattle.cfdp_sessions.specs.Sessions.{SessionFields, session_id, found}
use Rattle.cfdp_sessions.specs.declared.session.Stage.{Stage}
use Rattle.cfdp_sessions.specs.declared.session.Stage.TheVariants.{Held, Known, Over, Waiting}
use Rattle.cfdp_transactions.specs.declared.phase.Phase.{Phase}
use Rattle.cfdp_transactions.specs.declared.phase.Phase.TheVariants.{Receiving, Awaiting, Executing, Refused, Done, Ended}
use Rattle.cfdp_transactions.specs.Entry.{Entry}
use Rattle.cfdp_transactions.specs.World.{World, entry_of}
pub use Rattle.cfdp_receiver.specs.declared.joint_phase.JointPhase.{JointPhase}
pub use Rattle.cfdp_receiver.specs.declared.joint_phase.JointPhase.TheVariants.{Held as At_held, Receiving as At_receiving, Awaiting as At_awaiting, Executing as At_executing, Over as At_over, Waiting as At_waiting}
use Rattle.cfdp_receiver.specs.declared.indication.Became.{Became}
use Rattle.cfdp_receiver.specs.declared.indication.Indication.{Indication}
use Rattle.cfdp_receiver.specs.declared.mib.Mib.{Mib}

pub record State : Type 0 where
  pub world : World
  pub mib : Mib
  pub now : ℕ  -- its own time: the ticks that have passed for it, by which its timers run
  pub seen : ℕ  -- the latest moment that was handed in, by the driver's clock
  pub sessions : List SessionFields
  pub closed : ClosedFields

abbrev pub begin : Mib → World → State
begin mib W = record {
  world = W;
  mib = mib;
  now = 0;
  seen = 0;
  sessions = [];
  closed = record { sources = []; forgot = false };
}

abbrev pub moments : State → ℕ × ℕ
moments R = (R.now, R.seen)

-- a PDU that was read, a call of the user or of the driver
pub data Input : Type 0 where
  MetadataPdu : (now : ℕ) → (header : Header) → (metadata : MetadataFields) → Input
  DataPdu : (now : ℕ) → (header : Header) → (piece : FileDataFields) → Input
  EofPdu : (now : ℕ) → (header : Header) → (eof : Eof) → Input
  AckPdu : (now : ℕ) → (header : Header) → (ack : Ack) → Input
  PromptPdu : (now : ℕ) → (header : Header) → (prompt : Prompt) → Input
  -- NAK, Keep Alive or Finished
  OtherPdu : (now : ℕ) → (header : Header) → Input
  Expire : (now : ℕ) → Input
  Work : (now : ℕ) → Input
  Finish : (now : ℕ) → Input
  CancelAsked : (now : ℕ) → (id : TransactionId) → Input
  ForgetAsked : Input
  -- the driver's clock was set: its moment is this one by now
  ClockMoved : (now : ℕ) → Input
  -- an input whose moment is further ahead than may be
  NotTaken : Input

-- an earlier moment than the latest counts as the latest
abbrev pub now_of : Input → ℕ
now_of (MetadataPdu now header metadata) = now
now_of (DataPdu now header piece) = now
now_of (EofPdu now header eof) = now
now_of (AckPdu now header ack) = now
now_of (PromptPdu now header prompt) = now
now_of (OtherPdu now header) = now
now_of (Expire now) = now
now_of (Work now) = now
now_of (Finish now) = now
now_of (CancelAsked now id) = now
now_of ForgetAsked = 0
now_of (ClockMoved now) = 0
now_of NotTaken = 0

-- PDUs are sent in the order of the fields
pub record AnswerFields : Type 0 where
  pub acks : List (Header × Ack)
  pub naks : List NakFields
  pub keep_alives : List (Header × KeepAlive)
  pub finished : List (List ℕ)  -- their octets, without a CRC
  pub indications : List Indication
  pub became : Became

abbrev pub session_of : State → TransactionId → Option SessionFields
session_of R id = found R.sessions id

abbrev pub is_closed : State → TransactionId → Bool
is_closed R id = remembers R.closed id

abbrev pub is_full : State → Bool
is_full R = nat_le 64 (length R.sessions)

abbrev pub lacks_room : State → TransactionId → Bool
lacks_room R id = is_full R || not (has_room_for R.closed id.source)

abbrev pub at_phase : Phase → JointPhase
at_phase Receiving = At_receiving
at_phase (Awaiting checks) = At_awaiting checks
at_phase (Executing next) = At_executing
at_phase Refused = At_over
at_phase Done = At_over
at_phase (Ended condition) = At_over

abbrev pub at_entry : Option Entry → JointPhase
at_entry None = At_over
at_entry (Some e) = at_phase e.phase

abbrev pub at_stage : Stage → Option Entry → JointPhase
at_stage (Held eof) entry = At_held
at_stage Known entry = at_entry entry
at_stage (Over ending) entry = At_over
at_stage Waiting entry = At_waiting

abbrev pub at_of : World → SessionFields → JointPhase
at_of W s = at_stage s.stage (entry_of W (session_id s))

-- without a session: closed and remembered;  some name was forgotten
abbrev pub past_status : Bool → Bool → TransactionStatus
past_status true forgot = Terminated
past_status false true = Undefined
past_status false false = Unrecognized

abbrev pub session_status : Option SessionFields → Bool → Bool → TransactionStatus
session_status (Some s) closed forgot = Active
session_status None closed forgot = past_status closed forgot

abbrev pub status_of : State → TransactionId → TransactionStatus
status_of R id = session_status (session_of R id) (is_closed R id) R.closed.forgot

abbrev pub turned_header : Header → Header
turned_header h = record h { toward_sender = true }
