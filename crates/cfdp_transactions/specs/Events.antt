-- What happens to the receiving entity, and what it replies.
--     Event      a PDU that came (CCSDS 727.0-B-5 §5.2, §5.3), a step, a request to cancel (cancel procedures), a check
--                timer's expiry (timer procedures), or a request for the outcome
--     Outcome    the Finished PDU, its header, and whether it is sent
--     Reply
--     about      whose transaction an event is
--     is_metadata             a Metadata PDU came
--     is_take, hands_out      the request for the outcome;  the reply that has one
--     event_of   the event that a PDU is: none, where it goes toward the sender or the core does not take it
--     event_at octets         the event of the PDU that they spell, if it is one, or the first fault where they spell
--                             none (event_from read, of what reading them gives)
use Rattle.std.specs.Prelude.{ℕ, Bool, true, false, if◌then◌else◌, List, Option, Some, None, Result, Ok}
use Rattle.cfdp_status.specs.declared.transaction.TransactionId.{TransactionId}
use Rattle.cfdp_tlv.specs.Reading.{◌>>=◌}
use Rattle.cfdp_pdus.specs.First.{pdu_at}
use Rattle.cfdp_pdus.specs.declared.fault.PduFault.{PduFault}
use Rattle.cfdp_pdus.specs.declared.header.Header.{Header}
use Rattle.cfdp_pdus.specs.declared.pdu.Pdu.{Pdu}
use Rattle.cfdp_pdus.specs.declared.pdu.Pdu.TheVariants as pdu
use Rattle.cfdp_transactions.specs.Entry.{id_of}
pub use Rattle.cfdp_transactions.specs.declared.event.Event.{Event}
pub use Rattle.cfdp_transactions.specs.declared.event.Event.TheVariants.{Metadata as MetadataCame, Data as DataCame, Eof as EofCame, Step, Cancel, Check, Take}
pub use Rattle.cfdp_transactions.specs.declared.outcome.Outcome.{Outcome}
pub use Rattle.cfdp_transactions.specs.declared.reply.Reply.{Reply}

abbrev pub about : Event → TransactionId
about (MetadataCame h m) = id_of h
about (DataCame h piece) = id_of h
about (EofCame h eof) = id_of h
about (Step id) = id
about (Cancel id) = id
about (Check id) = id
about (Take id) = id

abbrev pub is_metadata : Event → Bool
is_metadata (MetadataCame h m) = true
is_metadata event = false

abbrev pub is_take : Event → Bool
is_take (Take id) = true
is_take event = false

abbrev pub hands_out : Reply → Bool
hands_out (Reply.Taken outcome) = true
hands_out reply = false

abbrev pub to_receiver : Header → Event → Option Event
to_receiver h event = if h.toward_sender then None else Some event

abbrev pub event_of : Pdu → Option Event
event_of (pdu.Metadata h m) = to_receiver h (MetadataCame h m)
event_of (pdu.FileData h piece) = to_receiver h (DataCame h piece)
event_of (pdu.Eof h eof) = to_receiver h (EofCame h eof)
event_of (pdu.Finished h finished) = None
event_of (pdu.NotOurs h directive) = None

abbrev pub event_from : Result Pdu PduFault → Result (Option Event) PduFault
event_from read = read >>= λ came. Ok (event_of came)

abbrev pub event_at : List ℕ → Result (Option Event) PduFault
event_at octets = event_from (pdu_at octets)
