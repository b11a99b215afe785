-- Worked examples: what is answered to each input, computed from the definitions.
use Rattle.std.proofs.Common.{◌≡◌, ℕ, ◌+◌, ◌*◌, List, [], ◌∷◌, refl, ap, ◌∙◌}
use Rattle.std.specs.Prelude.{pos, true, false, Some, codes, map, slice_set}
use Rattle.cfdp_actions.specs.Filestore.{empty_filestore, blocks_of, blocks}
use Rattle.cfdp_actions.specs.Actions.{Install, Perform, CreateFile, row, free_row, table, create, install}
use Rattle.cfdp_checksum.specs.Checksum.{weighed_from}
use Rattle.cfdp_directives.specs.declared.ack.TransactionStatus.TheVariants.{Active, Terminated, Unrecognized}
use Rattle.cfdp_directives.specs.declared.prompt.Prompt.TheVariants as prompts
use Rattle.cfdp_leases.specs.Items.{step_bound}
use Rattle.cfdp_pdus.specs.Canonical.{finished_field}
use Rattle.cfdp_pdus.specs.declared.eof.Eof.{Eof}
use Rattle.cfdp_pdus.specs.declared.header.Header.{Header}
use Rattle.cfdp_pdus.specs.Values.{MetadataFields, FileDataFields}
use Rattle.cfdp_status.specs.declared.action.Action.TheVariants as action
use Rattle.cfdp_states.specs.Alone.{statuses, steps, peak}
use Rattle.cfdp_transactions.specs.declared.event.Event.{Event}
use Rattle.cfdp_transactions.specs.declared.event.Event.TheVariants.{Metadata as MetadataCame, Eof as EofCame}
use Rattle.cfdp_transactions.specs.Entry.{Entry}
use Rattle.cfdp_transactions.specs.declared.phase.Phase.TheVariants.{Receiving, Executing}
use Rattle.cfdp_transactions.specs.declared.reply.Reply.{Reply as ReplyOf}
use Rattle.cfdp_transactions.specs.declared.reply.Reply.TheVariants as Reply
use Rattle.cfdp_transactions.specs.Admission.{new_entry}
use Rattle.cfdp_transactions.specs.Next.{next, run, replies as replies_of}
use Rattle.cfdp_transactions.specs.World.{World, start}
use Rattle.cfdp_transactions.proofs.Examples.Computing.{look_ups}
use Rattle.cfdp_transactions.proofs.Examples.ExampleWords.{config, id, asks}
use Rattle.cfdp_receiver.specs.declared.indication.Indication.TheVariants as tells
use Rattle.cfdp_receiver.specs.declared.indication.Word.TheVariants as words
use Rattle.cfdp_receiver.specs.declared.mib.Handler.TheVariants as handlers
use Rattle.cfdp_receiver.specs.declared.mib.Mib.{Mib}
use Rattle.cfdp_receiver.specs.declared.mib.NakMode.TheVariants as modes
use Rattle.cfdp_receiver.specs.State.{State, AnswerFields, Input, MetadataPdu, DataPdu, EofPdu, AckPdu, PromptPdu, Expire, Work, Finish, CancelAsked, now_of, turned_header}
use Rattle.cfdp_receiver.specs.Handing.{later}
use Rattle.cfdp_receiver.specs.Turning.{Parts, parts_of, after_input, after_all}
use Rattle.cfdp_receiver.specs.code.Turning.{all_answers}
use Rattle.cfdp_receiver.proofs.WorkedWords.{mib, fresh, header, header_un, M, octets, D, E, data_at, finished_ack, ack, nak, alive, says, replies, described, segment, pdu_of, ended, nothing}

-- ---- an input that hands on an event, and then others: its answer and those to what follows, by what the core makes of the first

abbrev parts_on : State → Input → List Event → World × ReplyOf → Parts
parts_on R i more x = parts_of (later (now_of i) R) (run x.0 more) (x.1 ∷ replies_of x.0 more) i

abbrev after_on : State → Input → List Event → World × ReplyOf → State
after_on R i more x = record {
  world = run x.0 more;
  mib = R.mib;
  now = (later (now_of i) R).now;
  seen = (later (now_of i) R).seen;
  sessions = (parts_on R i more x).sessions;
  closed = (parts_on R i more x).closed;
}

abbrev all_on : State → Input → List Event → List Input → World × ReplyOf → List AnswerFields
all_on R i more inputs x = (parts_on R i more x).answer ∷ all_answers (after_on R i more x) inputs

-- ---- the Metadata PDU comes first, at 0: of 1/5, and in unacknowledged mode of 1/7

abbrev pub with_entry : Header → World
with_entry h = record { config = config; filestore = empty_filestore; table = new_entry h M Receiving 0 (Install (codes "f" ∷ []) ∷ []) 2 2 ∷ [] }

pub admitted : next (start config) (MetadataCame (header 5) M) ≡ (with_entry (header 5), Reply.Admitted 2 2)
unfolding statuses steps peak row free_row install step_bound blocks blocks_of
admitted = simp look_ups

admitted_un : next (start config) (MetadataCame (header_un 7) M) ≡ (with_entry (header_un 7), Reply.Admitted 2 2)
unfolding statuses steps peak row free_row install step_bound blocks blocks_of
admitted_un = simp look_ups

abbrev live : Mib → State
live m = after_on (fresh m) (MetadataPdu 0 (header 5) M) [] (with_entry (header 5), Reply.Admitted 2 2)

abbrev live_un : State
live_un = after_on (fresh mib) (MetadataPdu 0 (header_un 7) M) [] (with_entry (header_un 7), Reply.Admitted 2 2)

first : (m : Mib) (inputs : List Input) →
    all_answers (fresh m) (MetadataPdu 0 (header 5) M ∷ inputs) ≡ record (replies 5 (Reply.Admitted 2 2)) { indications = described 5 ∷ [] } ∷ all_answers
    (live m) inputs
first m inputs = ap (all_on (fresh m) (MetadataPdu 0 (header 5) M) [] inputs) admitted

first_un : (inputs : List Input) →
    all_answers (fresh mib) (MetadataPdu 0 (header_un 7) M ∷ inputs) ≡ record
    (replies 7 (Reply.Admitted 2 2)) { indications = described 7 ∷ [] } ∷ all_answers live_un inputs
first_un inputs = ap (all_on (fresh mib) (MetadataPdu 0 (header_un 7) M) [] inputs) admitted_un

-- ---- each row after its Metadata PDU

abbrev stored : ℕ → ℕ → AnswerFields
stored low high = record (replies 5 Reply.Stored) { indications = segment 5 low high ∷ [] }

abbrev completed : ℕ → ℕ → AnswerFields
completed low high = record (replies 5 Reply.Complete) { indications = segment 5 low high ∷ [] }

-- the file's Finished PDU
abbrev delivered : AnswerFields
delivered = record (says 5 words.Finished) { finished = pdu_of 5 (2 ∷ []) ∷ []; indications = ended 5 0 false 2 ∷ [] }

-- everything comes in order; then its acknowledgement; and the EOF PDU again
in_order : all_answers (live mib) (data_at 0 0 15 ∷ EofPdu 0 (header 5) E ∷ Work 0 ∷ Finish 0 ∷ AckPdu 0 (header 5) finished_ack ∷ EofPdu 0 (header 5) E ∷ []) ≡
    stored 0 15
    ∷ record (replies 5 Reply.Complete) { acks = ack 5 0 Active ∷ []; indications = tells.EofRecv (id 5) ∷ [] }
    ∷ replies 5 Reply.Installed
    ∷ delivered
    ∷ says 5 words.Acknowledged
    ∷ record (says 5 words.Idle) { acks = ack 5 0 Terminated ∷ [] }
    ∷ []
unfolding statuses steps peak row free_row table install step_bound blocks blocks_of weighed_from finished_field
in_order = simp look_ups

-- the middle comes first; the EOF PDU comes twice; the gaps come from the last to the first
abbrev from_last : List Input
from_last = data_at 0 4 8 ∷ EofPdu 0 (header 5) E ∷ EofPdu 0 (header 5) E ∷ data_at 0 8 15 ∷ data_at 0 0 4 ∷ []

two_gaps : all_answers (live mib) from_last ≡
    stored 4 8
    ∷ record (replies 5 Reply.Waiting) { acks = ack 5 0 Active ∷ []; naks = nak 5 0 15 ((0, 4) ∷ (8, 15) ∷ []) ∷ []; indications = tells.EofRecv (id 5) ∷ [] }
    ∷ record (replies 5 Reply.Duplicate) { acks = ack 5 0 Active ∷ [] }
    ∷ stored 8 15
    ∷ completed 0 4
    ∷ []
unfolding blocks_of weighed_from
two_gaps = refl

-- all octets are there then, and one block is taken
abbrev all_there : Entry
all_there = record (new_entry (header 5) M (Executing 0) 0 (Install (codes "f" ∷ []) ∷ []) 2 2) {
  eof = Some E;
  complete = true;
  received = map (λ octet. Some octet) octets;
  blocks_spent = pos 1;
}

abbrev gathered : State
gathered = record (live mib) {
  world = record (with_entry (header 5)) { filestore = record empty_filestore { staged = slice_set empty_filestore.staged 0 octets }; table = all_there ∷ [] };
}

gathers : after_all (live mib) from_last ≡ gathered
unfolding blocks_of weighed_from
gathers = refl

-- and the file is installed, and its Finished PDU is sent
finished_from_gathered : all_answers gathered (Work 0 ∷ Finish 0 ∷ []) ≡ replies 5 Reply.Installed ∷ delivered ∷ []
unfolding statuses steps peak row free_row table install step_bound blocks blocks_of weighed_from finished_field
finished_from_gathered = simp look_ups

finished_after_gaps : all_answers (after_all (live mib) from_last) (Work 0 ∷ Finish 0 ∷ []) ≡ replies 5 Reply.Installed ∷ delivered ∷ []
finished_after_gaps = ap (λ (R : State). all_answers R (Work 0 ∷ Finish 0 ∷ [])) gathers ∙ finished_from_gathered

-- immediate: the gap is asked for when it begins
at_once : all_answers (live (record mib { nak_mode = modes.Immediate })) (data_at 0 0 4 ∷ data_at 0 8 12 ∷ []) ≡
    stored 0 4 ∷ record (stored 8 12) { naks = nak 5 4 12 ((4, 8) ∷ []) ∷ [] } ∷ []
unfolding blocks_of weighed_from
at_once = refl

-- Prompt PDUs
prompted : all_answers (live mib) (data_at 0 4 8 ∷ PromptPdu 0 (header 5) prompts.Nak ∷ PromptPdu 0 (header 5) prompts.KeepAlive ∷ []) ≡
    stored 4 8
    ∷ record (says 5 words.Answered) { naks = nak 5 0 8 ((0, 4) ∷ []) ∷ [] }
    ∷ record (says 5 words.Answered) { keep_alives = alive 5 8 ∷ [] }
    ∷ []
unfolding blocks_of weighed_from
prompted = refl

-- one request in each NAK PDU
one_each : all_answers (live (record mib { longest_nak = 72 })) (data_at 0 4 8 ∷ EofPdu 0 (header 5) E ∷ []) ≡
    stored 4 8
    ∷ record (replies 5 Reply.Waiting) {
      acks = ack 5 0 Active ∷ [];
      naks = nak 5 0 4 ((0, 4) ∷ []) ∷ nak 5 4 15 ((8, 15) ∷ []) ∷ [];
      indications = tells.EofRecv (id 5) ∷ [];
    }
    ∷ []
unfolding blocks_of weighed_from
one_each = refl

-- nothing of the file comes: it is asked for three times; then the NAK limit, and Finished until the ACK limit
abbrev asked : AnswerFields
asked = record (says 5 words.Expired) { naks = nak 5 0 15 ((0, 15) ∷ []) ∷ [] }

abbrev failed : ℕ → List ℕ
failed condition = pdu_of 5 ((16 * condition + 4) ∷ 6 ∷ 1 ∷ 2 ∷ [])

nothing_comes : all_answers (live mib) (EofPdu 1 (header 5) E ∷ Expire 10 ∷ Expire 11 ∷ Expire 21 ∷ Expire 31 ∷ Finish 31 ∷ Expire 41 ∷ Expire 51 ∷ Expire 61 ∷
    Expire 71 ∷ []) ≡
    record (replies 5 Reply.Waiting) { acks = ack 5 0 Active ∷ []; naks = nak 5 0 15 ((0, 15) ∷ []) ∷ []; indications = tells.EofRecv (id 5) ∷ [] }
    ∷ nothing
    ∷ asked
    ∷ asked
    ∷ says 5 words.Faulted
    ∷ record (says 5 words.Finished) { finished = failed 7 ∷ []; indications = ended 5 7 true 0 ∷ [] }
    ∷ record (says 5 words.Expired) { finished = failed 7 ∷ [] }
    ∷ record (says 5 words.Expired) { finished = failed 7 ∷ [] }
    ∷ record (says 5 words.Faulted) { indications = tells.Fault (id 5) 1 ∷ [] }
    ∷ nothing
    ∷ []
unfolding blocks_of weighed_from finished_field
nothing_comes = refl

-- an EOF PDU that comes first
abbrev held_eof : AnswerFields
held_eof = record (says 5 words.Held) {
  acks = ack 5 0 Active ∷ [];
  naks = nak 5 0 15 ((0, 0) ∷ (0, 15) ∷ []) ∷ [];
  indications = tells.EofRecv (id 5) ∷ [];
}

-- an octet that was missing begins the timer and its count anew; one that was there does not
progress_counts : all_answers (live mib) (EofPdu 1 (header 5) E ∷ Expire 11 ∷ data_at 12 0 4 ∷ Expire 21 ∷ Expire 22 ∷ data_at 23 0 4 ∷ Expire 32 ∷ Expire 42 ∷
    []) ≡
    record (replies 5 Reply.Waiting) { acks = ack 5 0 Active ∷ []; naks = nak 5 0 15 ((0, 15) ∷ []) ∷ []; indications = tells.EofRecv (id 5) ∷ [] }
    ∷ asked
    ∷ stored 0 4
    ∷ nothing
    ∷ record asked { naks = nak 5 0 15 ((4, 15) ∷ []) ∷ [] }
    ∷ stored 0 4
    ∷ record asked { naks = nak 5 0 15 ((4, 15) ∷ []) ∷ [] }
    ∷ says 5 words.Faulted
    ∷ []
unfolding blocks_of weighed_from
progress_counts = refl

-- of two sessions that are due the one that began first is served first, once; then the other; then none
two_due : all_answers (fresh mib) (EofPdu 0 (header 5) E ∷ EofPdu 0 (header 6) E ∷ Expire 10 ∷ Expire 10 ∷ Expire 10 ∷ []) ≡
    held_eof
    ∷ record (says 6 words.Held) { acks = ack 6 0 Active ∷ []; naks = nak 6 0 15 ((0, 0) ∷ (0, 15) ∷ []) ∷ []; indications = tells.EofRecv (id 6) ∷ [] }
    ∷ record (says 5 words.Expired) { naks = nak 5 0 15 ((0, 0) ∷ (0, 15) ∷ []) ∷ [] }
    ∷ record (says 6 words.Expired) { naks = nak 6 0 15 ((0, 0) ∷ (0, 15) ∷ []) ∷ [] }
    ∷ nothing
    ∷ []
two_due = refl

-- Keep Alive, and then inactivity
kept_alive : all_answers (live (record mib { keep_alive = Some 20 })) (data_at 1 0 8 ∷ Expire 20 ∷ Expire 101 ∷ Finish 101 ∷ []) ≡
    stored 0 8
    ∷ record (says 5 words.KeptAlive) { keep_alives = alive 5 8 ∷ [] }
    ∷ says 5 words.Faulted
    ∷ record (says 5 words.Finished) { finished = failed 8 ∷ []; indications = ended 5 8 true 0 ∷ [] }
    ∷ []
unfolding blocks_of weighed_from finished_field
kept_alive = refl

-- inactivity is ignored, and the NAK limit abandons
abbrev patient : Mib
patient = record mib {
  inactivity = record { interval = 5; at_limit = handlers.Ignore };
  nak = record { interval = 10; limit = 3; at_limit = handlers.Abandon };
}

abandoned : all_answers (live patient) (Expire 5 ∷ EofPdu 6 (header 5) E ∷ Expire 16 ∷ Expire 26 ∷ Expire 36 ∷ Finish 36 ∷ EofPdu 36 (header 5) E ∷ []) ≡
    record (says 5 words.Ignored) { indications = tells.Fault (id 5) 8 ∷ [] }
    ∷ record (replies 5 Reply.Waiting) { acks = ack 5 0 Active ∷ []; naks = nak 5 0 15 ((0, 15) ∷ []) ∷ []; indications = tells.EofRecv (id 5) ∷ [] }
    ∷ asked
    ∷ asked
    ∷ record (says 5 words.Faulted) { indications = tells.Abandoned (id 5) 7 ∷ [] }
    ∷ says 5 words.Closed
    ∷ record (says 5 words.Idle) { acks = ack 5 0 Terminated ∷ [] }
    ∷ []
unfolding blocks_of weighed_from
abandoned = refl

-- unacknowledged: the check limit
unacknowledged : all_answers live_un (DataPdu 2 (header_un 7) (D 0 8) ∷ EofPdu 2 (header_un 7) E ∷ Expire 12 ∷ Expire 22 ∷ Finish 22 ∷ []) ≡
    record (replies 7 Reply.Stored) { indications = segment 7 0 8 ∷ [] }
    ∷ record (replies 7 Reply.Waiting) { indications = tells.EofRecv (id 7) ∷ [] }
    ∷ says 7 words.Expired
    ∷ says 7 words.Faulted
    ∷ record (says 7 words.Closed) {
      finished = (0x2c ∷ 0 ∷ 5 ∷ 0 ∷ 1 ∷ 7 ∷ 2 ∷ 5 ∷ 0xa4 ∷ 6 ∷ 1 ∷ 2 ∷ []) ∷ [];
      indications = ended 7 10 true 0 ∷ [];
    }
    ∷ []
unfolding blocks_of weighed_from finished_field
unacknowledged = refl

-- ---- the EOF PDU comes first

held : all_answers (fresh mib) (EofPdu 0 (header 5) E ∷ data_at 0 0 15 ∷ EofPdu 0 (header 5) E ∷ MetadataPdu 0 (header_un 5) M ∷ []) ≡
    held_eof ∷ says 5 words.Idle ∷ record (says 5 words.Duplicate) { acks = ack 5 0 Active ∷ [] } ∷ says 5 words.Idle ∷ []
held = refl

-- of a file without octets only the Metadata PDU is asked for; and the sender cancels a transaction that is not known, and this one
abbrev cancelled_eof : Eof
cancelled_eof = record { condition = 15; checksum = 0; size = 0 }

ended_by_its_sender :
    all_answers (fresh mib) (EofPdu 0 (header 5) (record E { checksum = 0; size = 0 }) ∷ EofPdu 0 (header 6) cancelled_eof ∷ EofPdu 0
    (header 5) cancelled_eof ∷ Finish 0 ∷ []) ≡
    record held_eof { naks = nak 5 0 0 ((0, 0) ∷ []) ∷ [] }
    ∷ record (says 6 words.Unknown) { acks = ack 6 15 Unrecognized ∷ [] }
    ∷ record (says 5 words.Faulted) { acks = ack 5 15 Active ∷ [] }
    ∷ record (says 5 words.Finished) { finished = pdu_of 5 (0xf7 ∷ 6 ∷ 1 ∷ 1 ∷ []) ∷ []; indications = ended 5 15 true 3 ∷ [] }
    ∷ []
unfolding finished_field
ended_by_its_sender = refl

-- ---- the Metadata PDU comes after the EOF PDU that is held

abbrev holding : State
holding = after_input (fresh mib) (EofPdu 0 (header 5) E)

abbrev resumed : State
resumed = after_on holding (MetadataPdu 0 (header 5) M) (EofCame (header 5) E ∷ []) (with_entry (header 5), Reply.Admitted 2 2)

joined : (inputs : List Input) →
    all_answers holding (MetadataPdu 0 (header 5) M ∷ inputs)
    ≡ record (replies 5 (Reply.Admitted 2 2)) { indications = described 5 ∷ [] } ∷ all_answers resumed inputs
joined inputs = ap (all_on holding (MetadataPdu 0 (header 5) M) (EofCame (header 5) E ∷ []) inputs) admitted

after_the_join : all_answers resumed (data_at 0 0 15 ∷ Work 0 ∷ Finish 0 ∷ []) ≡ completed 0 15 ∷ replies 5 Reply.Installed ∷ delivered ∷ []
unfolding statuses steps peak row free_row table install step_bound blocks blocks_of weighed_from finished_field
after_the_join = simp look_ups

-- ---- a list with a request: cancelled, closed, and the Metadata PDU again

abbrev with_request : MetadataFields
with_request = record M { requests = asks action.CreateFile (codes "g") ∷ [] }

abbrev with_list : World
with_list = record {
  config = config;
  filestore = empty_filestore;
  table = new_entry (header 5) with_request Receiving 0 (Install (codes "f" ∷ []) ∷ Perform (CreateFile (codes "g" ∷ [])) ∷ []) 3 4 ∷ [];
}

admitted_with : next (start config) (MetadataCame (header 5) with_request) ≡ (with_list, Reply.Admitted 3 4)
unfolding statuses steps peak row free_row table create install step_bound blocks blocks_of
admitted_with = simp look_ups

abbrev listed : State
listed = after_on (fresh mib) (MetadataPdu 0 (header 5) with_request) [] (with_list, Reply.Admitted 3 4)

first_with : (inputs : List Input) →
    all_answers (fresh mib) (MetadataPdu 0 (header 5) with_request ∷ inputs)
    ≡ record (replies 5 (Reply.Admitted 3 4)) { indications = described 5 ∷ [] } ∷ all_answers listed inputs
first_with inputs = ap (all_on (fresh mib) (MetadataPdu 0 (header 5) with_request) [] inputs) admitted_with

not_again :
    all_answers listed (CancelAsked 0 (id 5) ∷ Finish 0 ∷ AckPdu 0 (header 5) (record finished_ack { directive = 4 }) ∷ AckPdu 0
    (header 5) finished_ack ∷ MetadataPdu 0 (header 5) with_request ∷ []) ≡
    replies 5 Reply.Cancelled
    ∷ record (says 5 words.Finished) { finished = pdu_of 5 (0xf4 ∷ 1 ∷ 4 ∷ 0x0f ∷ 1 ∷ 0x67 ∷ 0 ∷ 6 ∷ 1 ∷ 2 ∷ []) ∷ []; indications = ended 5 15 true 0 ∷ [] }
    ∷ says 5 words.Idle
    ∷ says 5 words.Acknowledged
    ∷ says 5 words.Duplicate
    ∷ []
unfolding blocks_of weighed_from finished_field
not_again = refl

-- ---- a large file: an octet past the greatest size, and then its EOF PDU

abbrev large_header : Header
large_header = record (header 8) { large = true }

abbrev unbounded : MetadataFields
unbounded = record M { size = 0 }

abbrev with_large : World
with_large = record {
  config = config;
  filestore = empty_filestore;
  table = new_entry large_header unbounded Receiving 0 (Install (codes "f" ∷ []) ∷ []) 21 2 ∷ [];
}

admitted_large : next (start config) (MetadataCame large_header unbounded) ≡ (with_large, Reply.Admitted 21 2)
unfolding statuses steps peak row free_row install step_bound blocks blocks_of
admitted_large = simp look_ups

abbrev live_large : State
live_large = after_on (fresh mib) (MetadataPdu 0 large_header unbounded) [] (with_large, Reply.Admitted 21 2)

first_large : (inputs : List Input) →
    all_answers (fresh mib) (MetadataPdu 0 large_header unbounded ∷ inputs)
    ≡ record (replies 8 (Reply.Admitted 21 2)) {
      indications = tells.MetadataRecv (id 8) (record { size = 0; closure = true; checksum_type = 0 }) ∷ [];
    }
    ∷ all_answers live_large inputs
first_large inputs = ap (all_on (fresh mib) (MetadataPdu 0 large_header unbounded) [] inputs) admitted_large

-- one octet at 2^32
abbrev past_the_cap : FileDataFields
past_the_cap = record { offset = 4294967296; octets = 0x78 ∷ [] }

too_large :
    all_answers live_large (DataPdu 1 large_header past_the_cap ∷ Finish 1 ∷ EofPdu 2 large_header (record E { checksum = 0; size = 1 }) ∷ []) ≡
    replies 8 (Reply.Faulted 6)
    ∷ record (says 8 words.Finished) {
      finished = (0x29 ∷ 0 ∷ 5 ∷ 0 ∷ 1 ∷ 8 ∷ 2 ∷ 5 ∷ 0x64 ∷ 6 ∷ 1 ∷ 2 ∷ []) ∷ [];
      indications = ended 8 6 true 0 ∷ [];
    }
    ∷ record (says 8 words.Idle) { acks = (turned_header large_header, record { directive = 4; condition = 0; status = Active }) ∷ [] }
    ∷ []
unfolding blocks_of weighed_from finished_field
too_large = refl
