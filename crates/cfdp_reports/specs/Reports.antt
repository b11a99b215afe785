-- What `cfdp run` writes of what a receiving entity answers to an input.
--     send_line octets                  the line of a PDU that is sent
--     indication_label label id         an indication, and whose transaction it is about
--     ended_text end                    how a transaction ended
--     indication_text, indication_line  an indication, and its line
--     word_text word                    a word of the receiver's own
--     is_taken reply                    a reply that hands out an outcome: the receiver has a word for it, and never
--                                       answers so
--     replied_line id reply             the line of a reply of the core
--     became_text became                the line of what became of an input, and nothing where there was nothing to do
--     answer_pdus a                     the PDUs that an answer sends, in order, without a CRC
--     send_lines, indication_lines      the lines of all PDUs, which have a CRC where `mib` says so;  of all
--                                       indications
--     answer_text mib a                 all lines of an answer
--     dropped_line why                  the line of octets that are no PDU
use Rattle.std.specs.Prelude.{ℕ, Bool, true, false, if◌then◌else◌, List, [], ◌++◌, map, codes}
use Rattle.std.specs.List.{flat_map}
use Rattle.hex.specs.Hex.{encode_lower}
use Rattle.cfdp_status.specs.Transaction.{transaction_name}
use Rattle.cfdp_status.specs.declared.transaction.TransactionId.{TransactionId}
use Rattle.cfdp_pdus.specs.declared.fault.PduFault.TheVariants as pdu
use Rattle.cfdp_crc.specs.declared.sealing.CrcFault.TheVariants as crc
use Rattle.cfdp_directives.specs.Spelling.{ack_pdu, nak_pdu, keep_alive_pdu}
use Rattle.cfdp_texts.specs.Replies.{line, word, labelled, reply_line, fault_line, not_ours}
use Rattle.cfdp_transactions.specs.declared.reply.Reply.{Reply}
use Rattle.cfdp_transactions.specs.declared.reply.Reply.TheVariants as replied
use Rattle.cfdp_receiver.specs.declared.indication.Conclusion.{Conclusion}
use Rattle.cfdp_receiver.specs.declared.indication.Indication.{Indication}
use Rattle.cfdp_receiver.specs.declared.indication.Indication.TheVariants.{MetadataRecv, FileSegmentRecv, EofRecv, TransactionFinished, Fault, Abandoned}
use Rattle.cfdp_receiver.specs.declared.indication.Word.{Word}
use Rattle.cfdp_receiver.specs.declared.indication.Word.TheVariants as words
use Rattle.cfdp_receiver.specs.declared.indication.Became.{Became}
use Rattle.cfdp_receiver.specs.declared.indication.Became.TheVariants.{Nothing, NotOurs, TooFarAhead, Said, Replied}
use Rattle.cfdp_receiver.specs.declared.mib.Mib.{Mib}
use Rattle.cfdp_receiver.specs.declared.reading.Dropped.{Dropped}
use Rattle.cfdp_receiver.specs.declared.reading.Dropped.TheVariants as dropped
use Rattle.cfdp_receiver.specs.State.{AnswerFields}
use Rattle.cfdp_receiver.specs.Sent.{as_sent}

abbrev pub send_line : List ℕ → List ℕ
send_line octets = line (codes "send " ++ encode_lower octets)

unfoldable pub indication_label : List ℕ → TransactionId → List ℕ
indication_label label id = codes "tell " ++ label ++ transaction_name id

abbrev pub delivery_text : Bool → List ℕ
delivery_text true = codes " incomplete"
delivery_text false = codes " complete"

unfoldable pub ended_text : Conclusion → List ℕ
ended_text end = labelled (codes " ") end.condition ++ delivery_text end.incomplete
    ++ labelled (codes " ") end.file_status

abbrev pub indication_text : Indication → List ℕ
indication_text (MetadataRecv id described) = indication_label (codes "metadata ") id
indication_text (FileSegmentRecv id offset len) = indication_label (codes "segment ") id ++ labelled (codes " ") offset
    ++ labelled (codes " ") len
indication_text (EofRecv id) = indication_label (codes "eof ") id
indication_text (TransactionFinished id end) = indication_label (codes "finished ") id ++ ended_text end
indication_text (Fault id condition) = indication_label (codes "fault ") id ++ labelled (codes " ") condition
indication_text (Abandoned id condition) = indication_label (codes "abandoned ") id ++ labelled (codes " ") condition

abbrev pub indication_line : Indication → List ℕ
indication_line indication = line (indication_text indication)

abbrev pub word_text : Word → List ℕ
word_text words.NotForUs = codes "not-for-us"
word_text words.TableFull = codes "table-full"
word_text words.SourcesFull = codes "sources-full"
word_text words.Duplicate = codes "duplicate"
word_text words.Idle = codes "idle"
word_text words.Unknown = codes "unknown"
word_text words.Held = codes "held"
word_text words.Faulted = codes "faulted"
word_text words.Acknowledged = codes "acknowledged"
word_text words.Answered = codes "answered"
word_text words.Cancelled = codes "cancelled"
word_text words.ListBegun = codes "list-begun"
word_text words.Expired = codes "expired"
word_text words.KeptAlive = codes "kept-alive"
word_text words.Ignored = codes "ignored"
word_text words.Finished = codes "finished"
word_text words.Closed = codes "closed"

abbrev pub is_taken : Reply → Bool
is_taken (replied.Taken outcome) = true
is_taken reply = false

abbrev pub replied_line : TransactionId → Reply → List ℕ
replied_line id reply = if is_taken reply then line (transaction_name id ++ word (codes "taken"))
    else reply_line id reply

abbrev pub became_text : Became → List ℕ
became_text Nothing = []
became_text NotOurs = not_ours
became_text TooFarAhead = codes "time too-far-ahead\n"
became_text (Said id said) = line (transaction_name id ++ word (word_text said))
became_text (Replied id reply) = replied_line id reply

abbrev pub answer_pdus : AnswerFields → List (List ℕ)
answer_pdus a =
    map (λ ack. ack_pdu ack.0 ack.1) a.acks
    ++ map (λ nak. nak_pdu nak.header nak.scope nak.requests) a.naks
    ++ map (λ keep_alive. keep_alive_pdu keep_alive.0 keep_alive.1) a.keep_alives
    ++ a.finished

abbrev pub send_lines : Mib → List (List ℕ) → List ℕ
send_lines mib pdus = flat_map (λ octets. send_line (as_sent mib octets)) pdus

abbrev pub indication_lines : List Indication → List ℕ
indication_lines indications = flat_map indication_line indications

abbrev pub answer_text : Mib → AnswerFields → List ℕ
answer_text mib a = send_lines mib (answer_pdus a) ++ indication_lines a.indications ++ became_text a.became

abbrev pub dropped_line : Dropped → List ℕ
dropped_line (dropped.Crc crc.Truncated) = fault_line pdu.Truncated
dropped_line (dropped.Crc crc.BadVersion) = fault_line pdu.BadVersion
dropped_line (dropped.Crc crc.LengthMismatch) = fault_line pdu.LengthMismatch
dropped_line (dropped.Crc crc.BadCrc) = codes "pdu dropped bad-crc\n"
dropped_line (dropped.Pdu fault) = fault_line fault
