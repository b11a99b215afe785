-- What an input does: to the sessions, to the names closed last, and what is answered.
--     Parts                     the sessions and closed names after an input, and the answer
--     quiet became              an answer that sends and indicates nothing
--     keeps, replaces_one, adds, closes  the sessions stay;  one is replaced;  one more begins;  one is closed
--     most_nak_requests mib     how many segment requests a NAK PDU has at most (§5.2.6)
--     asks mib V s              the NAK sequence for a session, in the world V
--     parts_of R V replies i    by the input: R is as late as it, V the world after what was handed on, and these were
--                               the replies
--     after_input R i, parts R i    the state after an input; its answer, with the sessions and closed names
--     is_too_far R now          a moment is further ahead of the latest than the management information base allows
--     timely R i                the input, or that none is taken, where its moment is too far ahead
--     turn R i                  the state after an input that is handed in, and its answer
--     after_all                 the state after several inputs
--     all_handed                all events that they hand to the core
use Rattle.std.specs.Prelude.{ℕ, ◌+◌, ◌-◌, ◌/◌, max, min, Bool, true, false, not, ◌&&◌, ◌||◌, ◌==◌, if◌then◌else◌, nat_le, nat_lt, List, [], ◌∷◌, ◌++◌, map, length, Option, Some, None}
use Rattle.std.specs.List.{filter}
use Rattle.cfdp_status.specs.declared.transaction.TransactionId.{TransactionId}
use Rattle.cfdp_status.specs.declared.status.Status.{Status}
use Rattle.cfdp_status.specs.declared.status.Status.TheVariants.{NotPerformed}
use Rattle.cfdp_tlv.specs.Values.{ResponseFields}
use Rattle.cfdp_pdus.specs.Values.{MetadataFields, FileDataFields, FinishedFields}
use Rattle.cfdp_pdus.specs.declared.header.Header.{Header}
use Rattle.cfdp_pdus.specs.declared.eof.Eof.{Eof}
use Rattle.cfdp_pdus.specs.Codes.{no_error, filestore_rejection, cancel_request_received, eof_code, finished_code, file_retained, file_unreported}
use Rattle.cfdp_directives.specs.Reading.{NakFields}
use Rattle.cfdp_directives.specs.declared.ack.Ack.{Ack}
use Rattle.cfdp_directives.specs.declared.ack.TransactionStatus.{TransactionStatus}
use Rattle.cfdp_directives.specs.declared.ack.TransactionStatus.TheVariants.{Active}
use Rattle.cfdp_directives.specs.declared.prompt.Prompt.{Prompt}
use Rattle.cfdp_directives.specs.declared.prompt.Prompt.TheVariants as prompts
use Rattle.cfdp_retransmission.specs.declared.timer.Expiry.TheVariants.{Again}
use Rattle.cfdp_retransmission.specs.Timers.{passed, restarted}
use Rattle.cfdp_retransmission.specs.Naks.{SegmentRequest, naks}
use Rattle.cfdp_sessions.specs.Closed.{ClosedFields, with_closed, with_source, forgotten}
use Rattle.cfdp_sessions.specs.Sessions.{SessionFields, session_id, replaced, without_session}
use Rattle.cfdp_sessions.specs.declared.session.Ending.{Ending}
use Rattle.cfdp_sessions.specs.declared.session.Stage.{Stage}
use Rattle.cfdp_sessions.specs.declared.session.Stage.TheVariants.{Held, Known, Over, Waiting}
use Rattle.cfdp_transactions.specs.Entry.{Entry, id_of, gaps, progress, reach}
use Rattle.cfdp_transactions.specs.declared.event.Event.{Event}
use Rattle.cfdp_transactions.specs.declared.reply.Reply.{Reply}
use Rattle.cfdp_transactions.specs.declared.reply.Reply.TheVariants as reply_of
use Rattle.cfdp_transactions.specs.declared.outcome.Outcome.{Outcome}
use Rattle.cfdp_transactions.specs.Outcome.{outcome_of}
use Rattle.cfdp_transactions.specs.Writable.{finished_octets}
use Rattle.cfdp_transactions.specs.World.{World, entry_of, next_runnable}
use Rattle.cfdp_transactions.specs.Next.{run, replies}
use Rattle.cfdp_receiver.specs.declared.indication.Became.{Became}
use Rattle.cfdp_receiver.specs.declared.indication.Became.TheVariants.{Nothing, NotOurs, TooFarAhead, Said, Replied}
use Rattle.cfdp_receiver.specs.declared.indication.Conclusion.{Conclusion}
use Rattle.cfdp_receiver.specs.declared.indication.Indication.{Indication}
use Rattle.cfdp_receiver.specs.declared.indication.Indication.TheVariants as tells
use Rattle.cfdp_receiver.specs.declared.indication.Word.{Word}
use Rattle.cfdp_receiver.specs.declared.indication.Word.TheVariants as words
use Rattle.cfdp_receiver.specs.declared.mib.Handler.{Handler}
use Rattle.cfdp_receiver.specs.declared.mib.Handler.TheVariants as handlers
use Rattle.cfdp_receiver.specs.declared.mib.Mib.{Mib}
use Rattle.cfdp_receiver.specs.declared.mib.NakMode.{NakMode}
use Rattle.cfdp_receiver.specs.declared.mib.NakMode.TheVariants as modes
use Rattle.cfdp_receiver.specs.State.{State, Input, MetadataPdu, DataPdu, EofPdu, AckPdu, PromptPdu, OtherPdu, Expire, Work, Finish, CancelAsked, ForgetAsked, ClockMoved, NotTaken, now_of, AnswerFields, session_of, is_closed, is_full, JointPhase, At_held, At_receiving, At_awaiting, At_waiting, at_of, status_of, turned_header, lacks_room}
use Rattle.cfdp_receiver.specs.Due.{Due, Nothing_due, Stage_due, Alive_due, first_due, first_over, fault_at, handler_at, is_receiving_at}
use Rattle.cfdp_receiver.specs.Handing.{is_ours, later, is_list_begun, handed, own_time}

pub record Parts : Type 0 where
  pub sessions : List SessionFields
  pub closed : ClosedFields
  pub answer : AnswerFields

abbrev pub quiet : Became → AnswerFields
quiet became = record { acks = []; naks = []; keep_alives = []; finished = []; indications = []; became = became }

abbrev pub keeps : State → AnswerFields → Parts
keeps R answer = record { sessions = R.sessions; closed = R.closed; answer = answer }

abbrev pub replaces_one : State → SessionFields → AnswerFields → Parts
replaces_one R new answer = record { sessions = replaced R.sessions new; closed = R.closed; answer = answer }

abbrev pub adds : State → SessionFields → AnswerFields → Parts
adds R new answer = record {
  sessions = R.sessions ++ new ∷ [];
  closed = with_source R.closed new.header.source;
  answer = answer;
}

abbrev pub closes : State → SessionFields → AnswerFields → Parts
closes R s answer = record {
  sessions = without_session R.sessions (session_id s);
  closed = with_closed R.closed s;
  answer = answer;
}

abbrev pub forgets : State → AnswerFields → Parts
forgets R answer = record { sessions = R.sessions; closed = forgotten R.closed R.sessions; answer = answer }

abbrev pub said_word : SessionFields → Word → AnswerFields
said_word s word = quiet (Said (session_id s) word)

abbrev pub said_of_header : Header → Word → AnswerFields
said_of_header h word = quiet (Said (id_of h) word)

-- the first reply, where one is there
abbrev pub became_reply : TransactionId → List Reply → Became
became_reply id [] = Nothing
became_reply id (reply ∷ more) = Replied id reply

-- ---- what is asked for

-- a header of 28 octets, the directive code, a scope of 16, requests of 16 each, and a CRC of 2; there are 33 gaps at
-- most, and the Metadata
abbrev pub most_nak_requests : Mib → ℕ
most_nak_requests mib = min 34 ((mib.longest_nak - 47) / 16)

-- from one offset up to another
abbrev pub sequence : Mib → Header → ℕ → ℕ → List SegmentRequest → List NakFields
sequence mib h low high requests =
    map (λ nak. record { header = turned_header h; scope = nak.scope; requests = nak.requests })
    (naks (most_nak_requests mib) low high requests)

-- the Metadata PDU, and all of the file
abbrev pub all_of : ℕ → List SegmentRequest
all_of size = (0, 0) ∷ (if size == 0 then [] else (0, size) ∷ [])

-- what is missing from an offset on
abbrev pub gaps_after : ℕ → Entry → List SegmentRequest
gaps_after low e = filter (λ g. nat_le low g.0) (gaps e)

abbrev pub asks_entry : Mib → Header → ℕ → Option Entry → List NakFields
asks_entry mib h low None = []
asks_entry mib h low (Some e) = sequence mib h low (reach e) (gaps_after low e)

abbrev pub asks_stage : Mib → Header → ℕ → Stage → Option Entry → List NakFields
asks_stage mib h low (Held eof) entry = sequence mib h low eof.size (all_of eof.size)
asks_stage mib h low Known entry = asks_entry mib h low entry
asks_stage mib h low (Over ending) entry = []
asks_stage mib h low Waiting entry = []

abbrev pub asks : Mib → World → SessionFields → List NakFields
asks mib V s = asks_stage mib s.header 0 s.stage (entry_of V (session_id s))

abbrev pub is_awaiting_at : JointPhase → Bool
is_awaiting_at (At_awaiting made) = true
is_awaiting_at at = false

abbrev pub asks_where_awaiting : Mib → World → SessionFields → List NakFields
asks_where_awaiting mib V s = if s.header.acknowledged && is_awaiting_at (at_of V s) then asks mib V s else []

-- ---- whether something new came

abbrev pub same_ranges : List SegmentRequest → List SegmentRequest → Bool
same_ranges [] [] = true
same_ranges [] (s ∷ ss) = false
same_ranges (r ∷ rs) [] = false
same_ranges (r ∷ rs) (s ∷ ss) = (r.0 == s.0) && (r.1 == s.1) && same_ranges rs ss

abbrev pub gaps_at : Option Entry → List SegmentRequest
gaps_at None = []
gaps_at (Some e) = gaps e

-- a PDU that is handed on restarts the timer, but in Awaiting only one that brings an octet that was missing
abbrev pub is_news : World → World → SessionFields → Bool
is_news U V s =
    not (is_awaiting_at (at_of U s) && is_awaiting_at (at_of V s))
    || not (same_ranges (gaps_at (entry_of U (session_id s))) (gaps_at (entry_of V (session_id s))))

abbrev pub heard_session : State → World → SessionFields → SessionFields
heard_session R V s = if is_news R.world V s then record s { timer = restarted R.now } else s

-- ---- Metadata

abbrev pub begun_session : State → Header → Stage → SessionFields
begun_session R h stage =
    record {
      header = h;
      stage = stage;
      timer = restarted R.now;
      alive_at = R.now;
      cause = None;
      is_abandoned = false;
      has_changed = false;
      finished = [];
    }

-- of a list with too many requests the core keeps no entry
abbrev pub stage_in : Option Entry → Bool → ℕ → Stage
stage_in None is_sent at_fault = Over
    (record { condition = filestore_rejection; is_sent = is_sent; at_fault = at_fault })
stage_in (Some e) is_sent at_fault = Known

abbrev pub described : TransactionId → MetadataFields → Indication
described id m = tells.MetadataRecv id (record { size = m.size; closure = m.closure; checksum_type = m.checksum_type })

-- the Metadata of a transaction whose EOF PDU is held. It asks for nothing: the NAK PDUs that asked for it asked for
-- the whole file, too, and the timer begins anew
abbrev pub joins : State → World → List Reply → Header → MetadataFields → Parts
joins R V replies h m =
    replaces_one R (begun_session R h (stage_in (entry_of V (id_of h)) true h.destination))
    (record (quiet (became_reply (id_of h) replies)) { indications = described (id_of h) m ∷ [] })

-- a new transaction
abbrev pub begins : State → World → List Reply → Header → MetadataFields → Parts
begins R V replies h m =
    adds R (begun_session R h (stage_in (entry_of V (id_of h)) (h.acknowledged || m.closure) h.destination))
    (record (quiet (became_reply (id_of h) replies)) { indications = described (id_of h) m ∷ [] })

abbrev pub metadata_stage : State → World → List Reply → Header → MetadataFields → SessionFields → Stage → Parts
metadata_stage R V replies h m s (Held eof) = if h.acknowledged then joins R V replies h m
    else keeps R (said_word s words.Idle)
metadata_stage R V replies h m s Known = replaces_one R (heard_session R V s) (quiet (became_reply (id_of h) replies))
metadata_stage R V replies h m s (Over ending) = keeps R (said_word s words.Duplicate)
metadata_stage R V replies h m s Waiting = keeps R (said_word s words.Duplicate)

-- there are 64 sessions, or 16 sources
abbrev pub no_room_word : State → Word
no_room_word R = if is_full R then words.TableFull else words.SourcesFull

abbrev pub turned_away : State → Header → Word
turned_away R h = if is_closed R (id_of h) then words.Duplicate else no_room_word R

abbrev pub metadata_parts : State → World → List Reply → Header → MetadataFields → Option SessionFields → Parts
metadata_parts R V replies h m None =
    if is_closed R (id_of h) || lacks_room R (id_of h) then keeps R (said_of_header h (turned_away R h))
    else begins R V replies h m
metadata_parts R V replies h m (Some s) = metadata_stage R V replies h m s s.stage

-- ---- File Data

abbrev pub progress_at : Option Entry → ℕ
progress_at None = 0
progress_at (Some e) = progress e

abbrev pub is_immediate : NakMode → Bool
is_immediate modes.Immediate = true
is_immediate modes.Deferred = false

-- at once, where a gap began after all that was there
abbrev pub asks_at_once : State → World → SessionFields → List NakFields
asks_at_once R V s =
    let low = progress_at (entry_of R.world (session_id s)) in
    if is_immediate R.mib.nak_mode && s.header.acknowledged && is_receiving_at (at_of V s)
    && not (length (filter (λ (g : SegmentRequest). nat_le low g.0) (gaps_at (entry_of V (session_id s)))) == 0)
    then asks_stage R.mib s.header low s.stage (entry_of V (session_id s))
    else []

abbrev pub is_kept_by : Reply → Bool
is_kept_by reply_of.Stored = true
is_kept_by reply_of.Complete = true
is_kept_by reply = false

abbrev pub is_kept : List Reply → Bool
is_kept [] = false
is_kept (reply ∷ replies) = is_kept_by reply

abbrev pub is_known : Stage → Bool
is_known Known = true
is_known stage = false

abbrev pub takes_piece : State → World → List Reply → Header → FileDataFields → SessionFields → Parts
takes_piece R V replies h piece s =
    replaces_one R (heard_session R V s) (record (quiet (became_reply (id_of h) replies)) {
      naks = asks_at_once R V s;
      indications = if is_kept replies then tells.FileSegmentRecv (id_of h) piece.offset (length piece.octets) ∷ []
          else [];
    })

-- a name without a session
abbrev pub word_without_session : State → TransactionId → Word
word_without_session R id = if is_closed R id then words.Idle else words.Unknown

abbrev pub data_parts : State → World → List Reply → Header → FileDataFields → Option SessionFields → Parts
data_parts R V replies h piece None = keeps R (said_of_header h (word_without_session R (id_of h)))
data_parts R V replies h piece (Some s) = if is_known s.stage then takes_piece R V replies h piece s
    else keeps R (said_word s words.Idle)

-- ---- EOF

-- an EOF PDU in acknowledged mode
abbrev pub acked : Header → ℕ → TransactionStatus → List (Header × Ack)
acked h condition status = if h.acknowledged then (
  turned_header h,
  record { directive = eof_code; condition = condition; status = status },
) ∷ [] else []

-- it is acknowledged, and no more
abbrev pub acks_only : Header → Eof → TransactionStatus → Word → AnswerFields
acks_only h eof status word = record (said_of_header h word) { acks = acked h eof.condition status }

abbrev pub left_receiving : State → World → SessionFields → Bool
left_receiving R V s = is_receiving_at (at_of R.world s) && not (is_receiving_at (at_of V s))

-- the sender ended it, before its Metadata came
abbrev pub ended_by : Header → Eof → SessionFields → SessionFields
ended_by h eof s = record s { stage = Over (record { condition = eof.condition; is_sent = true; at_fault = h.source }) }

-- the EOF PDU is handed to the core
abbrev pub takes_eof : State → World → List Reply → Header → Eof → SessionFields → Parts
takes_eof R V replies h eof s =
    replaces_one R (heard_session R V s) (record (quiet (became_reply (id_of h) replies)) {
      acks = acked h eof.condition Active;
      naks = if left_receiving R V s && (eof.condition == no_error) then asks_where_awaiting R.mib V s else [];
      indications = if left_receiving R V s && (eof.condition == no_error) then tells.EofRecv (id_of h) ∷ [] else [];
    })

-- a sender's cancel in the middle of a list is acknowledged, and the list goes on to its end
abbrev pub eof_known : State → World → List Reply → Header → Eof → SessionFields → Parts
eof_known R V replies h eof s = if not (eof.condition == no_error) && is_list_begun R (id_of h)
    then keeps R (acks_only h eof Active words.ListBegun) else takes_eof R V replies h eof s

abbrev pub eof_stage : State → World → List Reply → Header → Eof → SessionFields → Stage → Parts
eof_stage R V replies h eof s (Held kept) =
    if eof.condition == no_error then keeps R (acks_only h eof Active words.Duplicate)
    else replaces_one R (ended_by h eof s) (acks_only h eof Active words.Faulted)
eof_stage R V replies h eof s Known = eof_known R V replies h eof s
eof_stage R V replies h eof s stage = keeps R (acks_only h eof Active words.Idle)

-- a transaction whose EOF PDU comes first
abbrev pub held_first : State → Header → Eof → Parts
held_first R h eof = adds R (begun_session R h (Held eof)) (record (said_of_header h words.Held) {
  acks = acked h eof.condition Active;
  naks = asks R.mib R.world (begun_session R h (Held eof));
  indications = tells.EofRecv (id_of h) ∷ [];
})

abbrev pub eof_parts : State → World → List Reply → Header → Eof → Option SessionFields → Parts
eof_parts R V replies h eof None =
    if is_closed R (id_of h) || not (eof.condition == no_error) || not h.acknowledged
    then keeps R (acks_only h eof (status_of R (id_of h)) (word_without_session R (id_of h)))
    else if lacks_room R (id_of h) then keeps R (said_of_header h (no_room_word R))
    else held_first R h eof
eof_parts R V replies h eof (Some s) = eof_stage R V replies h eof s s.stage

-- ---- ACK and Prompt

abbrev pub ack_stage : State → Header → Ack → SessionFields → Stage → Parts
ack_stage R h ack s Waiting =
    if ack.directive == finished_code then closes R s (said_of_header h words.Acknowledged)
    else keeps R (said_of_header h words.Idle)
ack_stage R h ack s stage = keeps R (said_of_header h words.Idle)

abbrev pub ack_parts : State → Header → Ack → Option SessionFields → Parts
ack_parts R h ack None = keeps R (said_of_header h words.Idle)
ack_parts R h ack (Some s) = ack_stage R h ack s s.stage

abbrev pub takes_prompts : JointPhase → Bool
takes_prompts At_held = true
takes_prompts At_receiving = true
takes_prompts (At_awaiting made) = true
takes_prompts at = false

abbrev pub prompted : State → Header → SessionFields → Prompt → AnswerFields
prompted R h s prompts.Nak = record (said_of_header h words.Answered) { naks = asks R.mib R.world s }
prompted R h s prompts.KeepAlive =
    record (said_of_header h words.Answered) {
      keep_alives = (
        turned_header s.header,
        record { progress = progress_at (entry_of R.world (session_id s)) },
      ) ∷ [];
    }

abbrev pub roused : State → SessionFields → SessionFields
roused R s = if is_receiving_at (at_of R.world s) then record s { timer = restarted R.now } else s

abbrev pub prompt_parts : State → Header → Prompt → Option SessionFields → Parts
prompt_parts R h prompt None = keeps R (said_of_header h words.Idle)
prompt_parts R h prompt (Some s) =
    if s.header.acknowledged && takes_prompts (at_of R.world s) then replaces_one R (roused R s) (prompted R h s prompt)
    else keeps R (said_of_header h words.Idle)

-- ---- timers

-- below the limit: Finished again, or a NAK sequence in acknowledged mode
abbrev pub repeats : State → World → SessionFields → JointPhase → AnswerFields
repeats R V s At_waiting = record (said_word s words.Expired) { finished = s.finished ∷ [] }
repeats R V s at = if s.header.acknowledged then record (said_word s words.Expired) { naks = asks R.mib V s }
    else said_word s words.Expired

abbrev pub fault_indicated : SessionFields → ℕ → Word → AnswerFields
fault_indicated s condition word = record (said_word s word) { indications = tells.Fault (session_id s) condition ∷ [] }

abbrev pub abandonment_indicated : SessionFields → ℕ → AnswerFields
abandonment_indicated s condition = record (said_word s words.Faulted) {
  indications = tells.Abandoned (session_id s) condition
      ∷ [];
}

-- this entity, which is the destination, is at fault
abbrev pub over_here : State → SessionFields → ℕ → SessionFields
over_here R s condition = record s {
  stage = Over (record {
    condition = condition;
    is_sent = true;
    at_fault = s.header.destination;
  });
}

abbrev pub gives_up : State → SessionFields → ℕ → Handler → JointPhase → Parts
gives_up R s condition handlers.Ignore at = replaces_one R (record s { timer = restarted R.now })
    (fault_indicated s condition words.Ignored)
gives_up R s condition handlers.Cancel At_waiting = closes R s (fault_indicated s condition words.Faulted)
gives_up R s condition handlers.Cancel At_held = replaces_one R (over_here R s condition) (said_word s words.Faulted)
gives_up R s condition handlers.Cancel at = replaces_one R (record s { cause = Some condition })
    (said_word s words.Faulted)
gives_up R s condition handlers.Abandon At_waiting = closes R s (abandonment_indicated s condition)
gives_up R s condition handlers.Abandon At_held = closes R s (abandonment_indicated s condition)
gives_up R s condition handlers.Abandon at = replaces_one R (record s { is_abandoned = true })
    (abandonment_indicated s condition)

abbrev pub due_parts : State → World → Due → Parts
due_parts R V Nothing_due = keeps R (quiet Nothing)
due_parts R V (Alive_due s) =
    replaces_one R (record s { alive_at = R.now }) (record (said_word s words.KeptAlive) {
      keep_alives = (turned_header s.header, record { progress = progress_at (entry_of R.world (session_id s)) }) ∷ [];
    })
due_parts R V (Stage_due s false) = replaces_one R (record s { timer = passed R.now s.timer Again })
    (repeats R V s (at_of R.world s))
due_parts R V (Stage_due s true) =
    gives_up R s (fault_at s.header.acknowledged (at_of R.world s))
    (handler_at R.mib s.header.acknowledged (at_of R.world s)) (at_of R.world s)

-- ---- items and outcomes

abbrev pub work_became : Option TransactionId → List Reply → Became
work_became None replies = Nothing
work_became (Some id) replies = became_reply id replies

-- the outcome's condition, or that for which this entity cancelled the transaction
abbrev pub caused : Option ℕ → FinishedFields → FinishedFields
caused None f = f
caused (Some condition) f = record f { condition = condition }

-- of a transaction that was never in the core: nothing was kept of it, and its file is unreported
abbrev pub ending_finished : Ending → FinishedFields
ending_finished e = record {
  condition = e.condition;
  incomplete = true;
  file_status = file_unreported;
  responses = [];
  fault = Some e.at_fault;
}

abbrev pub stage_outcome : SessionFields → Stage → Outcome
stage_outcome s (Over ending) = record {
  header = turned_header s.header;
  finished = ending_finished ending;
  send = ending.is_sent;
}
stage_outcome s stage =
    record {
      header = turned_header s.header;
      finished = ending_finished
          (record { condition = cancel_request_received; is_sent = false; at_fault = s.header.destination });
      send = false;
    }

abbrev pub outcome_for : SessionFields → Option Entry → Outcome
outcome_for s (Some e) = record (outcome_of e) { finished = caused s.cause (outcome_of e).finished }
outcome_for s None = stage_outcome s s.stage

-- an item was performed, or tried: the file is installed, or a request was tried. They are tried in order, so where
-- the first was not, none was
abbrev pub is_tried : Status → Bool
is_tried (NotPerformed action) = false
is_tried status = true

abbrev pub is_any_tried : List ResponseFields → Bool
is_any_tried [] = false
is_any_tried (r ∷ rs) = is_tried r.status

abbrev pub has_changed : FinishedFields → Bool
has_changed f = (f.file_status == file_retained) || is_any_tried f.responses

-- by its outcome
abbrev pub settled : SessionFields → Outcome → SessionFields
settled s o = record s { has_changed = has_changed o.finished }

abbrev pub waits_for_ack : State → SessionFields → Outcome → SessionFields
waits_for_ack R s o = record s {
  stage = Waiting;
  has_changed = has_changed o.finished;
  finished = finished_octets o;
  timer = restarted R.now;
}

abbrev pub conclusion_of : Outcome → Conclusion
conclusion_of o = record {
  condition = o.finished.condition;
  incomplete = o.finished.incomplete;
  file_status = o.finished.file_status;
}

abbrev pub concluded : SessionFields → Outcome → Word → AnswerFields
concluded s o word = record (said_word s word) {
  indications = tells.TransactionFinished (session_id s)
      (conclusion_of o) ∷ [];
}

abbrev pub sends_it : SessionFields → Outcome → Word → AnswerFields
sends_it s o word = record (concluded s o word) { finished = finished_octets o ∷ [] }

abbrev pub finish_session : State → SessionFields → Outcome → Parts
finish_session R s o =
    if s.is_abandoned then closes R (settled s o) (said_word s words.Closed)
    else if not o.send then closes R (settled s o) (concluded s o words.Closed)
    else if not s.header.acknowledged then closes R (settled s o) (sends_it s o words.Closed)
    else replaces_one R (waits_for_ack R s o) (sends_it s o words.Finished)

abbrev pub finish_parts : State → Option SessionFields → Parts
finish_parts R None = keeps R (quiet Nothing)
finish_parts R (Some s) = finish_session R s (outcome_for s (entry_of R.world (session_id s)))

-- ---- the user's request to cancel

-- not in the middle of a list. A session that waits for its acknowledgement is closed
abbrev pub cancel_stage : State → List Reply → SessionFields → Stage → Parts
cancel_stage R replies s (Held eof) =
    replaces_one R (over_here R s cancel_request_received) (said_word s words.Cancelled)
cancel_stage R replies s Known = if is_list_begun R (session_id s) then keeps R (said_word s words.ListBegun)
    else keeps R (quiet (became_reply (session_id s) replies))
cancel_stage R replies s Waiting = closes R s (said_word s words.Closed)
cancel_stage R replies s (Over ending) = keeps R (said_word s words.Idle)

abbrev pub cancel_parts : State → List Reply → TransactionId → Option SessionFields → Parts
cancel_parts R replies id None = keeps R (quiet (Said id words.Unknown))
cancel_parts R replies id (Some s) = cancel_stage R replies s s.stage

-- ---- all inputs

abbrev pub foreign : Header → Became
foreign h = if h.toward_sender then NotOurs else Said (id_of h) words.NotForUs

abbrev pub where_ours : State → Header → Parts → Parts
where_ours R h parts = if is_ours R h then parts else keeps R (quiet (foreign h))

abbrev pub parts_of : State → World → List Reply → Input → Parts
parts_of R V replies (MetadataPdu now h m) = where_ours R h (metadata_parts R V replies h m (session_of R (id_of h)))
parts_of R V replies (DataPdu now h piece) = where_ours R h (data_parts R V replies h piece (session_of R (id_of h)))
parts_of R V replies (EofPdu now h eof) = where_ours R h (eof_parts R V replies h eof (session_of R (id_of h)))
parts_of R V replies (AckPdu now h ack) = where_ours R h (ack_parts R h ack (session_of R (id_of h)))
parts_of R V replies (PromptPdu now h prompt) = where_ours R h (prompt_parts R h prompt (session_of R (id_of h)))
parts_of R V replies (OtherPdu now h) = where_ours R h (keeps R (quiet NotOurs))
parts_of R V replies (Expire now) = due_parts R V (first_due R R.sessions)
parts_of R V replies (Work now) = keeps R (quiet (work_became (next_runnable R.world.table) replies))
parts_of R V replies (Finish now) = finish_parts R (first_over R.world R.sessions)
parts_of R V replies (CancelAsked now id) = cancel_parts R replies id (session_of R id)
parts_of R V replies ForgetAsked = forgets R (quiet Nothing)
parts_of R V replies (ClockMoved now) = keeps R (quiet Nothing)
parts_of R V replies NotTaken = keeps R (quiet TooFarAhead)

abbrev pub parts : State → Input → Parts
parts R i = parts_of (later (now_of i) R) (run R.world (handed R i)) (replies R.world (handed R i)) i

-- a moment of the driver's clock that is earlier counts as the latest, but where the clock was moved
abbrev pub seen_after : State → Input → ℕ
seen_after R (ClockMoved now) = now
seen_after R i = max R.seen (now_of i)

-- the world is what the core makes of what was handed on, and of nothing else
abbrev pub after_input : State → Input → State
after_input R i = record {
  world = run R.world (handed R i);
  mib = R.mib;
  now = max R.now (own_time R (now_of i));
  seen = seen_after R i;
  sessions = (parts R i).sessions;
  closed = (parts R i).closed;
}

-- more ticks after the latest moment than the management information base allows
abbrev pub is_ahead : ℕ → Option ℕ → ℕ → Bool
is_ahead seen None now = false
is_ahead seen (Some most) now = nat_lt (seen + most) now

abbrev pub is_too_far : State → ℕ → Bool
is_too_far R now = is_ahead R.seen R.mib.most_ahead now

abbrev pub timely : State → Input → Input
timely R i = if is_too_far R (now_of i) then NotTaken else i

abbrev pub turn : State → Input → State × AnswerFields
turn R i = (after_input R (timely R i), (parts R (timely R i)).answer)

abbrev pub after_all : State → List Input → State
after_all R [] = R
after_all R (i ∷ is) = after_all (after_input R i) is

abbrev pub all_handed : State → List Input → List Event
all_handed R [] = []
all_handed R (i ∷ is) = handed R i ++ all_handed (after_input R i) is
