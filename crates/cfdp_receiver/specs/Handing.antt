-- The events that an input hands to the core.
--     is_ours R h               the PDU goes toward the receiver of the file, and to this entity
--     longest_interval          the longest that a timer runs, in ticks
--     own_time R now            the receiver's own time at a moment of the driver's clock: it goes on by the ticks that
--                               passed since the latest moment, by at most the longest interval in one call
--     later now R               the state once this moment came
--     is_list_begun R id        the list of the transaction has begun: its first item, which is the install where there
--                               is a file, was performed, and another is still to be performed
--     handed R i                the events, at most two, in order
use Rattle.std.specs.Prelude.{ℕ, max, Bool, true, false, not, ◌&&◌, ◌||◌, ◌==◌, if◌then◌else◌, nat_lt, List, [], ◌∷◌, Option, Some, None, ◌+◌, ◌-◌, min}
use Rattle.cfdp_status.specs.declared.transaction.TransactionId.{TransactionId}
use Rattle.cfdp_pdus.specs.Values.{MetadataFields}
use Rattle.cfdp_pdus.specs.declared.header.Header.{Header}
use Rattle.cfdp_pdus.specs.declared.eof.Eof.{Eof}
use Rattle.cfdp_pdus.specs.Codes.{no_error}
use Rattle.cfdp_sessions.specs.Sessions.{SessionFields, session_id}
use Rattle.cfdp_sessions.specs.declared.session.Stage.{Stage}
use Rattle.cfdp_sessions.specs.declared.session.Stage.TheVariants.{Held, Known, Over, Waiting}
use Rattle.cfdp_transactions.specs.Entry.{Entry, id_of}
use Rattle.cfdp_transactions.specs.declared.phase.Phase.{Phase}
use Rattle.cfdp_transactions.specs.declared.phase.Phase.TheVariants.{Executing}
use Rattle.cfdp_transactions.specs.declared.event.Event.{Event}
use Rattle.cfdp_transactions.specs.declared.event.Event.TheVariants.{Metadata as MetadataCame, Data as DataCame, Eof as EofCame, Step, Cancel, Check, Take}
use Rattle.cfdp_transactions.specs.World.{entry_of, next_runnable}
use Rattle.cfdp_receiver.specs.declared.mib.Handler.{Handler}
use Rattle.cfdp_receiver.specs.declared.mib.Handler.TheVariants as handlers
use Rattle.cfdp_receiver.specs.State.{State, Input, MetadataPdu, DataPdu, EofPdu, AckPdu, PromptPdu, OtherPdu, Expire, Work, Finish, CancelAsked, ForgetAsked, ClockMoved, NotTaken, now_of, session_of, is_closed, JointPhase, At_awaiting, at_of, lacks_room}
use Rattle.cfdp_receiver.specs.Due.{Due, Nothing_due, Stage_due, Alive_due, first_due, first_over, handler_at}

abbrev pub is_ours : State → Header → Bool
is_ours R h = not h.toward_sender && (h.destination == R.world.config.entity)

abbrev pub longest_interval : ℕ
longest_interval = 4294967295

-- it is 2^64 - 1 at most, and earlier by as much as an earlier moment is
abbrev pub own_time : State → ℕ → ℕ
own_time R now = min (R.now + min (now - R.seen) longest_interval - (R.seen - now)) 18446744073709551615

abbrev pub later : ℕ → State → State
later now R = record R { now = max R.now (own_time R now); seen = max R.seen now }

abbrev pub has_performed : Phase → Bool
has_performed (Executing next) = nat_lt 0 next
has_performed phase = false

abbrev pub is_begun_entry : Option Entry → Bool
is_begun_entry None = false
is_begun_entry (Some e) = has_performed e.phase

abbrev pub is_list_begun : State → TransactionId → Bool
is_list_begun R id = is_begun_entry (entry_of R.world id)

-- a held EOF PDU follows its Metadata PDU
abbrev pub metadata_in_stage : Header → MetadataFields → SessionFields → Stage → List Event
metadata_in_stage h m s (Held eof) = if h.acknowledged then MetadataCame h m ∷ EofCame s.header eof ∷ [] else []
metadata_in_stage h m s Known = MetadataCame h m ∷ []
metadata_in_stage h m s (Over ending) = []
metadata_in_stage h m s Waiting = []

-- a transaction that is closed and remembered does not begin again
abbrev pub metadata_events : State → Header → MetadataFields → Option SessionFields → List Event
metadata_events R h m None = if is_closed R (id_of h) || lacks_room R (id_of h) then [] else MetadataCame h m ∷ []
metadata_events R h m (Some s) = metadata_in_stage h m s s.stage

abbrev pub where_known : Stage → List Event → List Event
where_known Known events = events
where_known stage events = []

abbrev pub of_session : Option SessionFields → List Event → List Event
of_session None events = []
of_session (Some s) events = where_known s.stage events

-- no cancel is handed on in the middle of a list: neither the sender's nor the user's
abbrev pub eof_events : State → Header → Eof → List Event
eof_events R h eof = if not (eof.condition == no_error) && is_list_begun R (id_of h) then [] else EofCame h eof ∷ []

abbrev pub cancel_events : State → TransactionId → List Event
cancel_events R id = if is_list_begun R id then [] else Cancel id ∷ []

-- in unacknowledged mode the core looks whether the file is whole
abbrev pub makes_checks : Bool → JointPhase → Bool
makes_checks false (At_awaiting made) = true
makes_checks acknowledged at = false

abbrev pub limit_events : TransactionId → Bool → Handler → List Event
limit_events id checks handlers.Ignore = []
limit_events id true handlers.Cancel = Check id ∷ []
limit_events id false handlers.Cancel = Cancel id ∷ []
limit_events id checks handlers.Abandon = Cancel id ∷ []

abbrev pub due_events : State → Due → List Event
due_events R Nothing_due = []
due_events R (Alive_due s) = []
due_events R (Stage_due s false) = where_known s.stage (if makes_checks s.header.acknowledged (at_of R.world s)
    then Check (session_id s) ∷ [] else [])
due_events R (Stage_due s true) =
    where_known s.stage (limit_events (session_id s) (makes_checks s.header.acknowledged (at_of R.world s))
    (handler_at R.mib s.header.acknowledged (at_of R.world s)))

abbrev pub step_of : Option TransactionId → List Event
step_of None = []
step_of (Some id) = Step id ∷ []

abbrev pub take_of : Option SessionFields → List Event
take_of None = []
take_of (Some s) = where_known s.stage (Take (session_id s) ∷ [])

-- R is as late as the input
abbrev pub events_of : State → Input → List Event
events_of R (MetadataPdu now h m) = if is_ours R h then metadata_events R h m (session_of R (id_of h)) else []
events_of R (DataPdu now h piece) = if is_ours R h then of_session (session_of R (id_of h)) (DataCame h piece ∷ [])
    else []
events_of R (EofPdu now h eof) = if is_ours R h then of_session (session_of R (id_of h)) (eof_events R h eof) else []
events_of R (AckPdu now h ack) = []
events_of R (PromptPdu now h prompt) = []
events_of R (OtherPdu now h) = []
events_of R (Expire now) = due_events R (first_due R R.sessions)
events_of R (Work now) = step_of (next_runnable R.world.table)
events_of R (Finish now) = take_of (first_over R.world R.sessions)
events_of R (CancelAsked now id) = of_session (session_of R id) (cancel_events R id)
events_of R ForgetAsked = []
events_of R (ClockMoved now) = []
events_of R NotTaken = []

abbrev pub handed : State → Input → List Event
handed R i = events_of (later (now_of i) R) i
