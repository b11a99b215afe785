-- What is true of the receiver, whatever comes.
--     HandsOn, HeadlineHolds    its world is the core's own, of the events that were handed on
--     FewEvents, FewPdus        how many events an input hands on at most;  how many PDUs an answer has at most
--     FindsNoRoom R h eof       an EOF PDU without a fault would begin a transaction, for which there is no room
--     AcknowledgedOnce          every other EOF PDU in acknowledged mode is acknowledged once
--     touched R i               the transaction that an input is about
--     OthersStay                the sessions of all others stay
--     is_forget i               all names closed last are to be forgotten
--     SourcesAreApart           else whether a name is remembered does not change where its source is not that of the
--                               transaction that the input is about
--     UnrecognizedIsTrue        this is said of no transaction that ever had a session
--     HadSession R inputs id    it had a session after some of the inputs
--     TerminatedIsTrue          this is said only of a transaction that had one
--     ClosedIsOver              a transaction that is closed and remembered has no session
--     Sent, FinishedOnly        when a Finished PDU is sent, and which
--     Asked, is_data, NaksAsk   what the NAK PDUs of an answer ask for, and of which session
--     ExactlyMissing            each missing offset once, and no other
--     asks_metadata requests    how often the Metadata PDU is asked for
--     asks_from, IsAskedFor     from where on octets are asked for;  the octet at an offset is missing there
--     AsksOnce, AsksOnceIn, NaksAskOnce      of the NAK PDUs of an answer: each missing octet once, and the Metadata
--                                            PDU exactly where none came
--     EndsThere W, EndsStayThere      the octet before the end of what was received of each transaction is there;  and
--                                     stays so
--     NaksAskOnceIn             the same as NaksAskOnce, of a state
--     FewNakPdus, FewRequests   how many NAK PDUs they are at most;  how many requests
--     due_of, timers_due        how many timers are due, of a session and of several
--     ServedOnce                at one moment each timer that is due is served once
--     KnownIsEntry              a session is known exactly where the core has an entry of its name
--     piece_events h ps         the pieces as File Data PDUs of one transaction
--     AnsweredIsDelivered       once every missing octet came, the file is complete, or its checksum is wrong
--     SessionsAreDistinct       no two sessions have one name
--     sent_while R inputs id    how often its Finished PDU is sent, as long as it waits for the acknowledgement
--     SentAtMost                at most as often as the limit says
--     sent_closed R inputs id   how often it is sent, as long as the transaction is closed and remembered
--     NoneAfterAck              an ACK PDU of a Finished PDU closes the transaction, and then none is sent
--     EntriesStay               events of others leave a transaction's entry in the core as it is
--     OthersKeepEntries         so does an input that is about another
--     WorkKeepsOthers           an item that is performed for one transaction leaves the entries of all others as they
--                               are
--     IsPast R id, NoneAgain    a Metadata PDU of a transaction that is closed and remembered, is over or waits, is not
--                               handed on
--     NotBegunAnew              one of a transaction that the core knows leaves the core as it is
--     is_remembered R id        it is closed and remembered, or has a session that holds no EOF PDU
--     RememberedStays           the same of a state: a Metadata PDU of a transaction that is remembered leaves the core
--                               as it is
--     AtMostOnce                while a transaction is remembered, no Metadata PDU of it changes the core
--     NonePerformed e, AllPerformed e   no item of a transaction's list was performed;  every item was
--     AllOrNone                 of a transaction that is over no item was performed, or every item was
use Rattle.std.specs.Prelude.{◌≡◌, ◌≢◌, ◌⊎◌, ℕ, ◌+◌, ◌-◌, ◌*◌, ◌≤◌, ◌<◌, ◌==◌, ◌&&◌, Bool, true, false, ◌||◌, if◌then◌else◌, List, [], ◌∷◌, ◌++◌, map, min, length, Option, Some, None, is_some}
use Rattle.std.specs.List.{AllByRecursion, flat_map, list_any}
use Rattle.cfdp_status.specs.declared.transaction.TransactionId.{TransactionId}
use Rattle.cfdp_leases.specs.Leases.{is_same}
use Rattle.cfdp_directives.specs.declared.ack.TransactionStatus.TheVariants.{Terminated, Unrecognized}
use Rattle.cfdp_directives.specs.Reading.{NakFields}
use Rattle.cfdp_directives.specs.declared.ack.Ack.{Ack}
use Rattle.cfdp_retransmission.specs.Coming.{Piece, AreAllKept, BringsMissing, continues, cover_count}
use Rattle.cfdp_retransmission.specs.declared.timer.Expiry.{Expiry}
use Rattle.cfdp_retransmission.specs.declared.timer.Expiry.TheVariants.{NotDue, Again, Limit}
use Rattle.cfdp_pdus.specs.Values.{MetadataFields}
use Rattle.cfdp_pdus.specs.declared.header.Header.{Header}
use Rattle.cfdp_pdus.specs.declared.eof.Eof.{Eof}
use Rattle.cfdp_pdus.specs.Codes.{no_error, file_checksum_failure, finished_code}
use Rattle.cfdp_pdus.specs.Bits.{one_if}
use Rattle.cfdp_sessions.specs.Sessions.{SessionFields, session_id, AreDistinct}
use Rattle.cfdp_sessions.specs.declared.session.Ending.{Ending}
use Rattle.cfdp_sessions.specs.declared.session.Stage.{Stage}
use Rattle.cfdp_sessions.specs.declared.session.Stage.TheVariants.{Held, Known, Over, Waiting}
use Rattle.cfdp_transactions.specs.Entry.{Entry, id_of, gaps, is_live, reach}
use Rattle.cfdp_transactions.specs.ReceivedLaws.{octet_at}
use Rattle.cfdp_transactions.specs.Received.{is_whole}
use Rattle.cfdp_transactions.specs.declared.event.Event.{Event}
use Rattle.cfdp_transactions.specs.declared.event.Event.TheVariants.{Data as DataCame}
use Rattle.cfdp_transactions.specs.declared.phase.Phase.TheVariants.{Awaiting, Executing, Ended}
use Rattle.cfdp_transactions.specs.Events.{about}
use Rattle.cfdp_transactions.specs.World.{World, bound, entry_of, next_runnable}
use Rattle.cfdp_transactions.specs.Next.{run}
use Rattle.cfdp_transactions.specs.Execution.{is_install}
use Rattle.cfdp_transactions.specs.Sound.{Each, Sound, all_successful}
use Rattle.cfdp_transactions.specs.Headline.{Promised, AtEach}
use Rattle.cfdp_transactions.specs.Writable.{finished_octets}
use Rattle.cfdp_receiver.specs.declared.mib.Handler.TheVariants.{Ignore}
use Rattle.cfdp_receiver.specs.declared.mib.Mib.{Mib}
use Rattle.cfdp_receiver.specs.State.{State, begin, Input, MetadataPdu, DataPdu, EofPdu, AckPdu, PromptPdu, OtherPdu, Expire, Work, Finish, CancelAsked, ForgetAsked, ClockMoved, NotTaken, now_of, status_of, session_of, is_closed, lacks_room}
use Rattle.cfdp_receiver.specs.Due.{Due, Nothing_due, Stage_due, Alive_due, IsSet, expiry_of, is_alive_due, first_due, first_over}
use Rattle.cfdp_receiver.specs.Handing.{is_ours, later, handed}
use Rattle.cfdp_receiver.specs.Turning.{outcome_for, most_nak_requests, sequence, all_of, gaps_after, progress_at, is_immediate, parts, after_input, after_all, all_handed, acked, is_known}

abbrev pub HandsOn : Type 0
HandsOn = (R : State) (inputs : List Input) → (after_all R inputs).world ≡ run R.world (all_handed R inputs)

abbrev pub HeadlineHolds : Type 0
HeadlineHolds = (R : State) (inputs : List Input) → Sound R.world → AtEach Sound Promised R.world (all_handed R inputs)

abbrev pub FewEvents : Type 0
FewEvents = (R : State) (i : Input) → length (handed R i) ≤ 2

abbrev pub FewPdus : Type 0
FewPdus = (R : State) (i : Input) → (length (parts R i).answer.acks ≤ 1)
    × (length (parts R i).answer.keep_alives + length (parts R i).answer.finished ≤ 1)

-- an EOF PDU without a fault would begin a transaction, for which there is no room: there are 64 sessions, or 16
-- sources and its own has no place
pub record FindsNoRoom (R : State) (h : Header) (eof : Eof) : Type 0 where
  pub none : session_of R (id_of h) ≡ None
  pub unclosed : is_closed R (id_of h) ≡ false
  pub faultless : eof.condition ≡ no_error
  pub full : lacks_room R (id_of h) ≡ true

-- or it finds no room, and is not taken
abbrev pub AcknowledgedOnce : Type 0
AcknowledgedOnce =
    (R : State) (now : ℕ) (h : Header) (eof : Eof) → h.acknowledged ≡ true → is_ours R h ≡ true →
    ((parts R (EofPdu now h eof)).answer.acks ≡ acked h eof.condition
    (status_of (after_input R (EofPdu now h eof)) (id_of h)))
    ⊎ (((parts R (EofPdu now h eof)).answer.acks ≡ []) × FindsNoRoom R h eof)

-- of an input that is about no transaction; then the name does not matter
abbrev pub nobody : TransactionId
nobody = record { source = 0; number = 0 }

abbrev pub due_name : Due → TransactionId
due_name Nothing_due = nobody
due_name (Stage_due s limit) = session_id s
due_name (Alive_due s) = session_id s

abbrev pub session_name : Option SessionFields → TransactionId
session_name None = nobody
session_name (Some s) = session_id s

abbrev pub touched_in : State → Input → TransactionId
touched_in R (MetadataPdu now h m) = id_of h
touched_in R (DataPdu now h piece) = id_of h
touched_in R (EofPdu now h eof) = id_of h
touched_in R (AckPdu now h ack) = id_of h
touched_in R (PromptPdu now h prompt) = id_of h
touched_in R (OtherPdu now h) = id_of h
touched_in R (Expire now) = due_name (first_due R R.sessions)
touched_in R (Work now) = nobody
touched_in R (Finish now) = session_name (first_over R.world R.sessions)
touched_in R (CancelAsked now id) = id
touched_in R ForgetAsked = nobody
touched_in R (ClockMoved now) = nobody
touched_in R NotTaken = nobody

abbrev pub touched : State → Input → TransactionId
touched R i = touched_in (later (now_of i) R) i

abbrev pub OthersStay : Type 0
OthersStay = (R : State) (i : Input) (id : TransactionId) → is_same (touched R i) id ≡ false → session_of
    (after_input R i) id
    ≡ session_of R id

abbrev pub is_forget : Input → Bool
is_forget ForgetAsked = true
is_forget i = false

abbrev pub SourcesAreApart : Type 0
SourcesAreApart = (R : State) (i : Input) (id : TransactionId) → is_forget i ≡ false →
    ((touched R i).source == id.source) ≡ false → is_closed (after_input R i) id ≡ is_closed R id

abbrev pub UnrecognizedIsTrue : Type 0
UnrecognizedIsTrue =
    (R : State) (s : SessionFields) (id : TransactionId) (inputs : List Input) → session_of R id ≡ Some s →
    status_of (after_all R inputs) id ≢ Unrecognized

abbrev pub knows : Option SessionFields → Bool
knows None = false
knows (Some s) = is_known s.stage

abbrev pub AreKnown : State → Type 0
AreKnown R = (id : TransactionId) → is_some (entry_of R.world id) ≡ knows (session_of R id)

-- it is closed; or it is over, and was never in the core; or its outcome was taken, and the acknowledgement is awaited
pub data IsPast (R : State) (id : TransactionId) : Type 0 where
  Past_closed : (none : session_of R id ≡ None) → (closed : is_closed R id ≡ true) → IsPast R id
  Past_over : (s : SessionFields) → (ending : Ending) → (here : session_of R id ≡ Some s) →
      (over : s.stage ≡ Over ending) → IsPast R id
  Past_waiting : (s : SessionFields) → (here : session_of R id ≡ Some s) → (waits : s.stage ≡ Waiting) → IsPast R id

abbrev pub NoneAgain : Type 0
NoneAgain = (R : State) (now : ℕ) (h : Header) (m : MetadataFields) → IsPast R (id_of h) →
    handed R (MetadataPdu now h m) ≡ []

abbrev pub NotBegunAnew : Type 0
NotBegunAnew =
    (R : State) (now : ℕ) (h : Header) (m : MetadataFields) (s : SessionFields) (entry : Entry) → session_of R (id_of h)
    ≡ Some s → s.stage ≡ Known →
    entry_of R.world (id_of h) ≡ Some entry → (after_input R (MetadataPdu now h m)).world ≡ R.world

-- where an EOF PDU is held, the first Metadata PDU is still to come
abbrev pub is_begun_in : Stage → Bool
is_begun_in (Held eof) = false
is_begun_in stage = true

abbrev pub is_begun : Option SessionFields → Bool
is_begun None = false
is_begun (Some s) = is_begun_in s.stage

abbrev pub is_remembered : State → TransactionId → Bool
is_remembered R id = is_closed R id || is_begun (session_of R id)

-- of a state as each is that a receiver comes to
abbrev pub RememberedStays : Type 0
RememberedStays =
    (R : State) (now : ℕ) (h : Header) (m : MetadataFields) → AreKnown R →
    (is_closed R (id_of h) ≡ true → session_of R (id_of h) ≡ None) →
    is_remembered R (id_of h) ≡ true → (after_input R (MetadataPdu now h m)).world ≡ R.world

abbrev pub AtMostOnce : Type 0
AtMostOnce =
    (mib : Mib) (W : World) (inputs : List Input) (now : ℕ) (h : Header) (m : MetadataFields) → Sound W → W.table ≡ [] →
    is_remembered (after_all (begin mib W) inputs) (id_of h) ≡ true →
    (after_input (after_all (begin mib W) inputs) (MetadataPdu now h m)).world ≡ (after_all (begin mib W) inputs).world

pub record HadSession (R : State) (inputs : List Input) (id : TransactionId) : Type 0 where
  pub front : List Input
  pub back : List Input
  pub parts : inputs ≡ front ++ back
  pub session : SessionFields
  pub found : session_of (after_all R front) id ≡ Some session

abbrev pub TerminatedIsTrue : Type 0
TerminatedIsTrue =
    (mib : Mib) (W : World) (inputs : List Input) (id : TransactionId) →
    status_of (after_all (begin mib W) inputs) id ≡ Terminated → HadSession (begin mib W) inputs id

abbrev pub ClosedIsOver : Type 0
ClosedIsOver =
    (mib : Mib) (W : World) (inputs : List Input) (id : TransactionId) →
    is_closed (after_all (begin mib W) inputs) id ≡ true → session_of (after_all (begin mib W) inputs) id ≡ None

-- of a state that is as late as the input: none; or the outcome of the first session that is over; or what was sent
-- before, of the session whose acknowledgement timer expired below its limit
pub data Sent (R : State) (i : Input) (sent : List (List ℕ)) : Type 0 where
  None_sent : (e : sent ≡ []) → Sent R i sent
  First_sent : (now : ℕ) → (s : SessionFields) → (is : i ≡ Finish now) →
      (over : first_over R.world R.sessions ≡ Some s) →
      (e : sent ≡ finished_octets (outcome_for s (entry_of R.world (session_id s))) ∷ []) → Sent R i sent
  Sent_again : (now : ℕ) → (s : SessionFields) → (is : i ≡ Expire now) →
      (due : first_due R R.sessions ≡ Stage_due s false) →
      (waits : s.stage ≡ Waiting) → (e : sent ≡ s.finished ∷ []) → Sent R i sent

abbrev pub FinishedOnly : Type 0
FinishedOnly = (R : State) (i : Input) → Sent (later (now_of i) R) i (parts R i).answer.finished

-- what the NAK PDUs of one answer ask for: U is the world before the input, N the state after it, id the transaction
-- that it is about. None; or, in acknowledged mode, of its session that holds an EOF PDU, the Metadata PDU and the
-- whole file; or of one that the core knows, all gaps; or, after a File Data PDU, the gaps that began after all that
-- was there before, of which there is one at least
pub data Asked (U : World) (data_came : Bool) (N : State) (id : TransactionId) (sent : List NakFields) : Type 0 where
  Asks_none : (e : sent ≡ []) → Asked U data_came N id sent
  Asks_all : (s : SessionFields) → (eof : Eof) → (here : session_of N id ≡ Some s) →
      (mode : s.header.acknowledged ≡ true) → (held : s.stage ≡ Held eof) →
      (e : sent ≡ sequence N.mib s.header 0 eof.size (all_of eof.size)) → Asked U data_came N id sent
  Asks_gaps : (s : SessionFields) → (entry : Entry) → (here : session_of N id ≡ Some s) →
      (mode : s.header.acknowledged ≡ true) → (known : s.stage ≡ Known) →
      (there : entry_of N.world id ≡ Some entry) → (other : data_came ≡ false) →
      (e : sent ≡ sequence N.mib s.header 0 (reach entry) (gaps entry)) →
      Asked U data_came N id sent
  Asks_new : (s : SessionFields) → (entry : Entry) → (low : ℕ) → (here : session_of N id ≡ Some s) →
      (mode : s.header.acknowledged ≡ true) →
      (known : s.stage ≡ Known) → (there : entry_of N.world id ≡ Some entry) → (came : data_came ≡ true) →
      (immediate : is_immediate N.mib.nak_mode ≡ true) →
      (from : low ≡ progress_at (entry_of U id)) → (some : 1 ≤ length (gaps_after low entry)) →
      (e : sent ≡ sequence N.mib s.header low (reach entry) (gaps_after low entry)) → Asked U data_came N id sent

abbrev pub is_data : Input → Bool
is_data (DataPdu now h piece) = true
is_data i = false

abbrev pub NaksAsk : Type 0
NaksAsk = (R : State) (i : Input) → Asked R.world (is_data i) (after_input R i) (touched R i) (parts R i).answer.naks

abbrev pub requests_of_naks : List NakFields → List (ℕ × ℕ)
requests_of_naks naks = flat_map (λ nak. nak.requests) naks

-- of a sequence from an offset on that is 0, or comes right after an octet that was received
abbrev pub ExactlyMissing : Type 0
ExactlyMissing =
    (mib : Mib) (h : Header) (entry : Entry) (low i : ℕ) → 1 ≤ most_nak_requests mib → continues entry.received low
    ≡ true →
    (low ≤ i → i < reach entry → octet_at entry.received i ≡ None →
    cover_count i (requests_of_naks (sequence mib h low (reach entry) (gaps_after low entry))) ≡ 1)
    × ((low ≤ i → i < reach entry → octet_at entry.received i ≡ None → ⊥) →
    cover_count i (requests_of_naks (sequence mib h low (reach entry) (gaps_after low entry))) ≡ 0)

-- how often the Metadata PDU is among the requests
abbrev pub asks_metadata : List (ℕ × ℕ) → ℕ
asks_metadata [] = 0
asks_metadata (r ∷ rs) = one_if ((r.0 == 0) && (r.1 == 0)) + asks_metadata rs

-- where what is asked for begins: after a File Data PDU at the end of all that was there before
abbrev pub asks_from : World → Bool → TransactionId → ℕ
asks_from U true id = progress_at (entry_of U id)
asks_from U false id = 0

-- the octet at an offset from `low` on, below the reach, is missing
abbrev pub IsAskedFor : Entry → ℕ → ℕ → Type 0
IsAskedFor entry low at = (low ≤ at) × (at < reach entry) × (octet_at entry.received at ≡ None)

-- of all requests of an answer with NAK PDUs. Where the EOF PDU is held: the Metadata PDU once, and each octet of the
-- file once. Where the core knows the transaction: never the Metadata PDU, each missing octet once, and no other
pub data AsksOnce (U : World) (data_came : Bool) (N : State) (id : TransactionId) (at : ℕ)
    (requests : List (ℕ × ℕ)) : Type 0 where
  Once_held : (s : SessionFields) → (eof : Eof) → (here : session_of N id ≡ Some s) → (held : s.stage ≡ Held eof) →
      (metadata : asks_metadata requests ≡ 1) →
      (inside : at < eof.size → cover_count at requests ≡ 1) → (outside : eof.size ≤ at → cover_count at requests ≡ 0) →
      AsksOnce U data_came N id at requests
  Once_known : (s : SessionFields) → (entry : Entry) → (here : session_of N id ≡ Some s) → (known : s.stage ≡ Known) →
      (there : entry_of N.world id ≡ Some entry) →
      (metadata : asks_metadata requests ≡ 0) →
      (inside : IsAskedFor entry (asks_from U data_came id) at → cover_count at requests ≡ 1) →
      (outside : (IsAskedFor entry (asks_from U data_came id) at → ⊥) → cover_count at requests ≡ 0) →
      AsksOnce U data_came N id at requests

abbrev pub AsksOnceIn : State → Input → ℕ → Type 0
AsksOnceIn R i at =
    ((parts R i).answer.naks ≡ []) ⊎ AsksOnce R.world (is_data i) (after_input R i) (touched R i) at
    (requests_of_naks (parts R i).answer.naks)

-- the octet before the end of all that was received of each transaction is there
abbrev pub EndsThere : World → Type 0
EndsThere W = Each (λ e. continues e.received (length e.received) ≡ true) W.table

abbrev pub EndsStayThere : Type 0
EndsStayThere = (R : State) (i : Input) → EndsThere R.world → EndsThere (after_input R i).world

abbrev pub NaksAskOnceIn : Type 0
NaksAskOnceIn = (R : State) (i : Input) (at : ℕ) → 1 ≤ most_nak_requests R.mib → (is_data i ≡ true → EndsThere R.world)
    →
    AsksOnceIn R i at

abbrev pub NaksAskOnce : Type 0
NaksAskOnce =
    (mib : Mib) (W : World) (inputs : List Input) (i : Input) (at : ℕ) → W.table ≡ [] → 1 ≤ most_nak_requests mib →
    AsksOnceIn (after_all (begin mib W) inputs) i at

abbrev pub FewNakPdus : Type 0
FewNakPdus =
    (mib : Mib) (h : Header) (low high : ℕ) (requests : List (ℕ × ℕ)) → 1 ≤ most_nak_requests mib →
    most_nak_requests mib * length (sequence mib h low high requests) < 1 + most_nak_requests mib + length requests

abbrev pub FewRequests : Type 0
FewRequests = (W : World) (id : TransactionId) (entry : Entry) (low : ℕ) → Sound W → entry_of W id ≡ Some entry →
    length (gaps_after low entry) ≤ 33

abbrev pub is_due : Expiry → ℕ
is_due NotDue = 0
is_due Again = 1
is_due Limit = 1

-- that of its stage, and Keep Alive
abbrev pub due_of : State → SessionFields → ℕ
due_of R s = is_due (expiry_of R s) + one_if (is_alive_due R s)

abbrev pub timers_due : State → List SessionFields → ℕ
timers_due R [] = 0
timers_due R (s ∷ ss) = due_of R s + timers_due R ss

-- after as many expiries as timers were due, none is due
abbrev pub ServedOnce : Type 0
ServedOnce =
    (R : State) (now : ℕ) → IsSet R.mib → Sound R.world → AreDistinct R.sessions →
    timers_due (after_input R (Expire now)) (after_input R (Expire now)).sessions ≤ timers_due
    (later now R) R.sessions - 1

abbrev pub KnownIsEntry : Type 0
KnownIsEntry = (mib : Mib) (W : World) (inputs : List Input) → Sound W → W.table ≡ [] →
    AreKnown (after_all (begin mib W) inputs)

abbrev pub piece_events : Header → List Piece → List Event
piece_events h ps = map (λ p. DataCame h (record { offset = p.0; octets = p.1 })) ps

-- in Awaiting; none of the pieces is passed over, and none ends after the file does
abbrev pub AnsweredIsDelivered : Type 0
AnsweredIsDelivered =
    (W : World) (h : Header) (e : Entry) (eof : Eof) (made : ℕ) (ps : List Piece) → h.destination ≡ W.config.entity →
    entry_of W (id_of h) ≡ Some e →
    e.phase ≡ Awaiting made → e.eof ≡ Some eof → length e.received ≤ eof.size → is_whole eof.size e.received ≡ false →
    AllByRecursion (λ p. p.0 + length p.1 ≤ min (bound W.config e.metadata) eof.size) ps → AreAllKept e.received ps →
    BringsMissing eof.size e.received ps →
    (now : Entry) × (entry_of (run W (piece_events h ps)) (id_of h) ≡ Some now)
    × ((now.phase ≡ Executing 0) ⊎ (now.phase ≡ Ended file_checksum_failure))

abbrev pub SessionsAreDistinct : Type 0
SessionsAreDistinct = (mib : Mib) (W : World) (inputs : List Input) → AreDistinct
    (after_all (begin mib W) inputs).sessions

abbrev pub is_waiting : Stage → Bool
is_waiting Waiting = true
is_waiting stage = false

abbrev pub waits_in : Option SessionFields → Bool
waits_in None = false
waits_in (Some s) = is_waiting s.stage

abbrev pub sent_for : State → Input → TransactionId → ℕ
sent_for R i id = if is_same (touched R i) id then length (parts R i).answer.finished else 0

abbrev pub sent_while : State → List Input → TransactionId → ℕ
sent_while R [] id = 0
sent_while R (i ∷ is) id = if waits_in (session_of R id) then sent_for R i id + sent_while (after_input R i) is id
    else 0

-- a session begins to wait, with a count of 0, when its Finished PDU is sent first
abbrev pub SentAtMost : Type 0
SentAtMost =
    (R : State) (inputs : List Input) (id : TransactionId) (s : SessionFields) → AreDistinct R.sessions →
    session_of R id ≡ Some s → s.stage ≡ Waiting →
    R.mib.ack.at_limit ≢ Ignore → s.timer.count < R.mib.ack.limit → 1 + s.timer.count
    + sent_while R inputs id ≤ R.mib.ack.limit

abbrev pub EntriesStay : Type 0
EntriesStay =
    (W : World) (events : List Event) (id : TransactionId) → Sound W → AllByRecursion (λ v. id ≢ about v) events →
    entry_of (run W events) id ≡ entry_of W id

-- of the entry, Work is about the transaction whose item is next
abbrev pub is_work : Input → Bool
is_work (Work now) = true
is_work i = false

abbrev pub OthersKeepEntries : Type 0
OthersKeepEntries =
    (R : State) (i : Input) (id : TransactionId) → Sound R.world → is_work i ≡ false → is_same (touched R i) id
    ≡ false →
    entry_of (after_input R i).world id ≡ entry_of R.world id

abbrev pub WorkKeepsOthers : Type 0
WorkKeepsOthers =
    (R : State) (now : ℕ) (id : TransactionId) → Sound R.world → next_runnable R.world.table ≢ Some id →
    entry_of (after_input R (Work now)).world id ≡ entry_of R.world id

-- how often a Finished PDU of a transaction is sent, as long as it is closed and remembered
abbrev pub sent_closed : State → List Input → TransactionId → ℕ
sent_closed R [] id = 0
sent_closed R (i ∷ is) id = if is_closed R id then sent_for R i id + sent_closed (after_input R i) is id else 0

-- the ACK PDU of a Finished PDU
abbrev pub NoneAfterAck : Type 0
NoneAfterAck =
    (R : State) (now : ℕ) (h : Header) (ack : Ack) (s : SessionFields) (inputs : List Input) → AreDistinct R.sessions →
    is_ours R h ≡ true → ack.directive ≡ finished_code →
    session_of R (id_of h) ≡ Some s → s.stage ≡ Waiting →
    (session_of (after_input R (AckPdu now h ack)) (id_of h) ≡ None)
    × (is_closed (after_input R (AckPdu now h ack)) (id_of h) ≡ true)
    × (sent_closed (after_input R (AckPdu now h ack)) inputs (id_of h) ≡ 0)

pub record NonePerformed (e : Entry) : Type 0 where
  pub statuses : e.statuses ≡ []
  pub installed : e.installed ≡ false
  pub steps : e.steps_spent ≡ 0

-- each request with 'successful', and the file is installed where there is one
pub record AllPerformed (e : Entry) : Type 0 where
  pub statuses : e.statuses ≡ all_successful e.metadata.requests
  pub installed : e.installed ≡ list_any is_install e.items

-- whatever comes, a cancel in the middle of the list included
abbrev pub AllOrNone : Type 0
AllOrNone =
    (mib : Mib) (W : World) (inputs : List Input) (id : TransactionId) (e : Entry) → Sound W → W.table ≡ [] →
    entry_of (after_all (begin mib W) inputs).world id ≡ Some e → is_live e.phase ≡ false →
    NonePerformed e ⊎ AllPerformed e
