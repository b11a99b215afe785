-- What a receiver answered to its last input, as C sees it.
--   word_number, became_number    the number of a word, and of what became of an input
--   transaction_by, reply_by      the transaction that the input was about, and the core's reply; zeros where there is
--                                 none
--   blank kind id             an indication that brings no numbers
--   indication_fields_of, indicated  an indication;  that of an answer, if there is one
--   report_of S               the whole report: zeros before the first input
use Rattle.std.specs.Prelude.{ℕ, if◌then◌else◌, List, [], ◌∷◌, length, Option, Some, None}
use Rattle.cfdp_status.specs.declared.transaction.TransactionId.{TransactionId}
use Rattle.cfdp_receiver.specs.declared.indication.Became.{Became}
use Rattle.cfdp_receiver.specs.declared.indication.Became.TheVariants.{Nothing, NotOurs, TooFarAhead, Said, Replied}
use Rattle.cfdp_receiver.specs.declared.indication.Indication.{Indication}
use Rattle.cfdp_receiver.specs.declared.indication.Indication.TheVariants.{MetadataRecv, FileSegmentRecv, EofRecv, TransactionFinished, Fault, Abandoned}
use Rattle.cfdp_receiver.specs.declared.indication.Word.{Word}
use Rattle.cfdp_receiver.specs.declared.indication.Word.TheVariants as words
use Rattle.cfdp_receiver.specs.StateMachine.{AnswerParts}
use Rattle.cfdp_reception.specs.Reception.{ReceptionFields, pdus_in}
use Rattle.cfdp_c.specs.Calls.{transaction_named}
use Rattle.cfdp_c.specs.Numbers.{reply_none}
use Rattle.cfdp_c.specs.Reads.{name_fields}
use Rattle.cfdp_c.specs.Reported.{bare, reported}
use Rattle.cfdp_c.specs.declared.reply.ReplyFields.{ReplyFields}
use Rattle.cfdp_c.specs.declared.reports.IndicationFields.{IndicationFields}
use Rattle.cfdp_c.specs.declared.reports.ReportFields.{ReportFields}

abbrev pub no_one : TransactionId
no_one = transaction_named 0 0

abbrev pub word_number : Word → ℕ
word_number words.NotForUs = 3
word_number words.TableFull = 4
word_number words.Duplicate = 5
word_number words.Idle = 6
word_number words.Unknown = 7
word_number words.Held = 8
word_number words.Faulted = 9
word_number words.Acknowledged = 10
word_number words.Answered = 11
word_number words.Cancelled = 12
word_number words.Expired = 13
word_number words.KeptAlive = 14
word_number words.Ignored = 15
word_number words.Finished = 16
word_number words.Closed = 17
word_number words.ListBegun = 18
word_number words.SourcesFull = 19

abbrev pub became_number : Became → ℕ
became_number Nothing = 0
became_number NotOurs = 1
became_number TooFarAhead = 20
became_number (Replied id reply) = 2
became_number (Said id word) = word_number word

abbrev pub transaction_by : Became → TransactionId
transaction_by Nothing = no_one
transaction_by NotOurs = no_one
transaction_by TooFarAhead = no_one
transaction_by (Replied id reply) = id
transaction_by (Said id word) = id

abbrev pub reply_by : Became → ReplyFields
reply_by Nothing = bare no_one reply_none
reply_by NotOurs = bare no_one reply_none
reply_by TooFarAhead = bare no_one reply_none
reply_by (Replied id reply) = reported id reply
reply_by (Said id word) = bare id reply_none

abbrev pub blank : ℕ → TransactionId → IndicationFields
blank kind id = record {
  kind = kind;
  condition = 0;
  incomplete = 0;
  file_status = 0;
  closure = 0;
  checksum_type = 0;
  transaction = name_fields id;
  offset = 0;
  length = 0;
}

abbrev pub indication_fields_of : Indication → IndicationFields
indication_fields_of (MetadataRecv id described) =
    record (blank 1 id) {
      closure = if described.closure then 1 else 0;
      checksum_type = described.checksum_type;
      length = described.size;
    }
indication_fields_of (FileSegmentRecv id offset len) = record (blank 2 id) { offset = offset; length = len }
indication_fields_of (EofRecv id) = blank 3 id
indication_fields_of (TransactionFinished id end) =
    record (blank 4 id) {
      condition = end.condition;
      incomplete = if end.incomplete then 1 else 0;
      file_status = end.file_status;
    }
indication_fields_of (Fault id condition) = record (blank 5 id) { condition = condition }
indication_fields_of (Abandoned id condition) = record (blank 6 id) { condition = condition }

abbrev pub indicated : List Indication → IndicationFields
indicated [] = blank 0 no_one
indicated (indication ∷ more) = indication_fields_of indication

abbrev pub report_in : ℕ → Option AnswerParts → ReportFields
report_in pdus None = record {
  pdus = pdus;
  became = 0;
  transaction = name_fields no_one;
  reply = bare no_one reply_none;
  indication = blank 0 no_one;
}
report_in pdus (Some a) = record {
  pdus = pdus;
  became = became_number a.became;
  transaction = name_fields (transaction_by a.became);
  reply = reply_by a.became;
  indication = indicated a.indications;
}

abbrev pub report_of : ReceptionFields → ReportFields
report_of S = report_in (length (pdus_in S)) S.answer
