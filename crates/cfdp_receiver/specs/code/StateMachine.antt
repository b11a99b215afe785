-- What only the proofs of the code need of `StateMachine`.
--     at_moment now M           the machine once a moment was handed in
--     AtIndex ss index P        P of the session with this index
--     IsSessionAt R id index    the session of this name has this index
--     in_world V M              the machine in another world
--     timer_in ss due           the timer that is due, with its session instead of its index
--     is_expired                            whether a timer has expired
--     Turns M N a i             from M to N with the answer a is the turn of the input i; M is as late as i
--     HavePlaces R              the source of each session has a place
--     IsWholeReceiver R         what is true of a receiver at all times
--     IsAsking, IsSendable      what is sent fits its PDUs
--     awaited_of W s            what is missing of a transaction that waits for it
--     IsTaking entry            file data is taken, where there is an entry
--     with_session M new        the session of the same name is replaced
--     begins_no_gap R id piece  file data begins no gap that is asked for at once
--     IsInOrder R h piece index     file data for this session is only kept: no PDU is sent with it
--     machine_closed M s        the session is closed, and its name remembered
--     machine_heard U M s       what was handed to the core since the world U is heard by a session
use Rattle.std.specs.Prelude.{◌≡◌, ⊤, ℕ, ◌≤◌, ◌<◌, ◌^◌, Bool, true, false, not, ◌||◌, if◌then◌else◌, nat_le, List, [], length, map, slice_get, All, Option, Some, None, IfSome, IsTrue}
use Rattle.cfdp_pdus.specs.Bits.{fss}
use Rattle.cfdp_pdus.specs.Canonical.{IsHeader}
use Rattle.cfdp_directives.specs.Spelling.{IsSizedAck, IsSizedKeepAlive, IsSizedRange}
use Rattle.cfdp_status.specs.declared.transaction.TransactionId.{TransactionId}
use Rattle.cfdp_pdus.specs.Values.{FileDataFields}
use Rattle.cfdp_pdus.specs.declared.header.Header.{Header}
use Rattle.cfdp_directives.specs.Reading.{NakFields}
use Rattle.cfdp_directives.specs.declared.ack.Ack.{Ack}
use Rattle.cfdp_directives.specs.declared.keep_alive.KeepAlive.{KeepAlive}
use Rattle.cfdp_retransmission.specs.Naks.{SegmentRequest, naks}
use Rattle.cfdp_retransmission.specs.declared.timer.Expiry.{Expiry}
use Rattle.cfdp_retransmission.specs.declared.timer.Expiry.TheVariants.{NotDue, Again, Limit}
use Rattle.cfdp_sessions.specs.Closed.{has_source, with_closed}
use Rattle.cfdp_sessions.specs.Sessions.{SessionFields, session_id, replaced, without_session}
use Rattle.cfdp_sessions.specs.declared.session.Stage.TheVariants.{Known}
use Rattle.cfdp_transactions.specs.Entry.{Entry, id_of, takes_data}
use Rattle.cfdp_transactions.specs.declared.outcome.Outcome.{Outcome}
use Rattle.cfdp_transactions.specs.World.{World, entry_of}
use Rattle.cfdp_transactions.specs.Next.{run, replies}
use Rattle.cfdp_receiver.specs.declared.indication.Became.{Became}
use Rattle.cfdp_receiver.specs.State.{State, Input, moments, is_closed, session_of, at_of}
use Rattle.cfdp_receiver.specs.declared.timing.DueTimer.{DueTimer}
use Rattle.cfdp_receiver.specs.declared.timing.DueTimer.TheVariants as timers
use Rattle.cfdp_receiver.specs.Due.{Due, Nothing_due, Stage_due, Alive_due, is_receiving_at}
use Rattle.cfdp_receiver.specs.Handing.{events_of, is_ours, later}
use Rattle.cfdp_receiver.specs.Laws.{AreKnown, EndsThere}
use Rattle.cfdp_receiver.specs.Turning.{Parts, parts_of, finish_session, gaps_at, heard_session, is_awaiting_at, is_immediate, progress_at}
use Rattle.cfdp_receiver.specs.StateMachine.{StateMachineFields, AnswerParts, answer_in}

-- without a sequence none is sent
abbrev pub all_naks : Option (List NakFields) → List NakFields
all_naks None = []
all_naks (Some naks) = naks

abbrev pub sequence_of : Header → ℕ → ℕ → ℕ → List SegmentRequest → List NakFields
sequence_of h most low high requests = map (λ nak. record { header = h; scope = nak.scope; requests = nak.requests })
    (naks most low high requests)

abbrev pub at_moment : ℕ → StateMachineFields → StateMachineFields
at_moment now M = record M { state = later now M.state }

abbrev pub in_world : World → StateMachineFields → StateMachineFields
in_world V M = record M { state = record M.state { world = V } }

abbrev pub AtIndex : List SessionFields → ℕ → (SessionFields → Type 0) → Type 0
AtIndex ss index P = (session : SessionFields) → slice_get ss index ≡ Some session → P session

pub record IsSessionAt (R : State) (id : TransactionId) (index : ℕ) : Type 0 where
  pub found : session_of R id ≡ slice_get R.sessions index
  pub within : index < length R.sessions

abbrev pub timer_of : (SessionFields → Due) → Option SessionFields → Due
timer_of due None = Nothing_due
timer_of due (Some session) = due session

abbrev pub timer_in : List SessionFields → DueTimer → Due
timer_in ss timers.Nothing = Nothing_due
timer_in ss (timers.Stage index) = timer_of (λ s. Stage_due s false) (slice_get ss index)
timer_in ss (timers.Limit index) = timer_of (λ s. Stage_due s true) (slice_get ss index)
timer_in ss (timers.KeepAlive index) = timer_of (λ s. Alive_due s) (slice_get ss index)

-- the index of a session, where there is one
abbrev pub is_within : List SessionFields → DueTimer → Type 0
is_within ss timers.Nothing = ⊤
is_within ss (timers.Stage index) = index < length ss
is_within ss (timers.Limit index) = index < length ss
is_within ss (timers.KeepAlive index) = index < length ss

abbrev pub is_expired : Expiry → Bool
is_expired NotDue = false
is_expired Again = true
is_expired Limit = true

abbrev pub world_after : State → Input → World
world_after R i = run R.world (events_of R i)

abbrev pub parts_after : State → Input → Parts
parts_after R i = parts_of R (world_after R i) (replies R.world (events_of R i)) i

pub record Turns (M N : StateMachineFields) (a : AnswerParts) (i : Input) : Type 0 where
  pub world : N.state.world ≡ world_after M.state i
  pub mib : N.state.mib ≡ M.state.mib
  pub now : moments N.state ≡ moments M.state
  pub sessions : N.state.sessions ≡ (parts_after M.state i).sessions
  pub closed : N.state.closed ≡ (parts_after M.state i).closed
  pub answer : answer_in N a ≡ (parts_after M.state i).answer

pub record IsAsking (h : Header) (from to count : ℕ) (rs : List SegmentRequest) : Type 0 where
  pub header : IsHeader h
  pub most : 1 ≤ count
  pub low : from < 256 ^ fss h.large
  pub high : to < 256 ^ fss h.large
  pub requests : All (IsSizedRange h.large) rs

pub record IsSendable (acked : Option (Header × Ack)) (alive : Option (Header × KeepAlive)) : Type 0 where
  pub ack : IfSome acked (λ a. IsHeader a.0 × IsSizedAck a.1)
  pub keep_alive : IfSome alive (λ k. IsHeader k.0 × IsSizedKeepAlive k.0.large k.1)

abbrev pub silent : Became → AnswerParts
silent became = record {
  acks = [];
  naks = [];
  keep_alives = [];
  finished = [];
  indications = [];
  became = became;
  turn = 0;
}

abbrev pub awaited_of : World → SessionFields → Option (List SegmentRequest)
awaited_of W s = if is_awaiting_at (at_of W s) then Some (gaps_at (entry_of W (session_id s))) else None

abbrev pub with_session : StateMachineFields → SessionFields → StateMachineFields
with_session M new = record M { state = record M.state { sessions = replaced M.state.sessions new } }

abbrev pub machine_heard : World → StateMachineFields → SessionFields → StateMachineFields
machine_heard U M s = with_session M (heard_session (record M.state { world = U }) M.state.world s)

abbrev pub machine_closed : StateMachineFields → SessionFields → StateMachineFields
machine_closed M s = record M {
  state = record M.state {
    sessions = without_session M.state.sessions (session_id s);
    closed = with_closed M.state.closed s;
  };
}

-- the core's world is what it is by now
pub record Concludes (M N : StateMachineFields) (a : AnswerParts) (s : SessionFields) (o : Outcome) : Type 0 where
  pub world : N.state.world ≡ M.state.world
  pub mib : N.state.mib ≡ M.state.mib
  pub now : moments N.state ≡ moments M.state
  pub sessions : N.state.sessions ≡ (finish_session M.state s o).sessions
  pub closed : N.state.closed ≡ (finish_session M.state s o).closed
  pub answer : answer_in N a ≡ (finish_session M.state s o).answer

abbrev pub HavePlaces : State → Type 0
HavePlaces R = (id : TransactionId) (s : SessionFields) → session_of R id ≡ Some s →
    has_source R.closed id.source ≡ true

-- what is true of a receiver at all times
pub record IsWholeReceiver (R : State) : Type 0 where
  pub known : AreKnown R
  pub places : HavePlaces R
  pub over : (id : TransactionId) → is_closed R id ≡ true → session_of R id ≡ None
  pub ends : EndsThere R.world

-- there is no entry, or file data is taken
abbrev pub IsTaking : Option Entry → Type 0
IsTaking None = ⊤
IsTaking (Some e) = IsTrue (takes_data e.phase)

-- gaps are asked for after the EOF PDU; or file data begins within what was received, or right after it
abbrev pub begins_no_gap : State → TransactionId → FileDataFields → Bool
begins_no_gap R id piece = not (is_immediate R.mib.nak_mode) || nat_le piece.offset (progress_at (entry_of R.world id))

-- file data with which nothing is sent: no EOF PDU of its transaction came, and no gap is asked for at once
pub record IsInOrder (R : State) (h : Header) (piece : FileDataFields) (index : ℕ) : Type 0 where
  pub ours : is_ours R h ≡ true
  pub here : IsSessionAt R (id_of h) index
  pub known : AtIndex R.sessions index (λ s. s.stage ≡ Known)
  pub receiving : AtIndex R.sessions index (λ s. is_receiving_at (at_of R.world s) ≡ true)
  pub no_gap : begins_no_gap R (id_of h) piece ≡ true
