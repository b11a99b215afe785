-- A PDU as it is shown: its kind, how many octets it has, and its fields by their names in CCSDS 727.0-B-5 §5.
--   pdu_shown style octets    what is written of octets, which are a PDU or are damaged
use Rattle.std.specs.Prelude.{ℕ, ◌%◌, Bool, true, false, ◌==◌, nat_lt, if◌then◌else◌, List, [], ◌∷◌, ◌++◌, codes, decimal, length, Option, Some, None, Result, Ok, Err}
use Rattle.std.specs.List.{flat_map}
use Rattle.hex.specs.Hex.{encode_lower}
use Rattle.byteorder.specs.Endian.{big_bytes}
use Rattle.cfdp_status.specs.Codes.{octet_of, code_of, action_of}
use Rattle.cfdp_tlv.specs.Values.{RequestFields, ResponseFields}
use Rattle.cfdp_pdus.specs.Codes.{nak_code}
use Rattle.cfdp_pdus.specs.First.{pdu_at}
use Rattle.cfdp_pdus.specs.Texts.{pdu_fault_text}
use Rattle.cfdp_pdus.specs.Messages.{messages_at}
use Rattle.cfdp_pdus.specs.Values.{MetadataFields, FileDataFields, FinishedFields}
use Rattle.cfdp_pdus.specs.declared.eof.Eof.{Eof}
use Rattle.cfdp_pdus.specs.declared.fault.PduFault.{PduFault}
use Rattle.cfdp_pdus.specs.declared.header.Header.{Header}
use Rattle.cfdp_pdus.specs.declared.pdu.Pdu.{Pdu}
use Rattle.cfdp_pdus.specs.declared.pdu.Pdu.TheVariants as pdus
use Rattle.cfdp_directives.specs.Reading.{NakFields, directive_spelled, nak_within}
use Rattle.cfdp_directives.specs.declared.nak.NakFault.{NakFault}
use Rattle.cfdp_directives.specs.declared.nak.NakFault.TheVariants as nak_faults
use Rattle.cfdp_directives.specs.declared.ack.Ack.{Ack}
use Rattle.cfdp_directives.specs.declared.prompt.Prompt.{Prompt}
use Rattle.cfdp_directives.specs.declared.prompt.Prompt.TheVariants as prompts
use Rattle.cfdp_directives.specs.declared.read.Directive.{Directive}
use Rattle.cfdp_directives.specs.declared.read.Directive.TheVariants as directives
use Rattle.cfdp_crc.specs.Seal.{unsealed}
use Rattle.cfdp_crc.specs.declared.sealing.CrcFault.{CrcFault}
use Rattle.cfdp_crc.specs.declared.sealing.CrcFault.TheVariants as crc
use Rattle.cfdp_words.specs.Codes.{action_words, checksum_words, condition_words, directive_words, file_status_words, status_words, transaction_words}
use Rattle.cfdp_words.specs.Names.{kind_words}
use Rattle.cfdp_words.specs.declared.names.PduKind.{PduKind}
use Rattle.cfdp_words.specs.declared.names.PduKind.TheVariants as kinds
use Rattle.cfdp_words.specs.declared.names.Name.{Name}
use Rattle.cfdp_words.specs.declared.names.Name.TheVariants as names
use Rattle.cfdp_words.specs.Style.{code_field, digits_field, flag_field, label, name_field, number_field, plain_field}
use Rattle.cfdp_words.specs.declared.style.Style.{Style}
use Rattle.cfdp_words.specs.declared.style.Style.TheVariants.{Text, Json}

-- ---- the beginning and the end

abbrev pub opening : Style → PduKind → ℕ → List ℕ
opening Text kind len = kind_words kind ++ codes " PDU, " ++ decimal len ++ codes " octets\n"
opening Json kind len = codes "{\"kind\":\"" ++ kind_words kind ++ codes "\",\"octets\":" ++ decimal len

abbrev pub closing_text : Style → List ℕ
closing_text Text = []
closing_text Json = codes "}\n"

-- ---- the header

abbrev pub direction_words : Bool → List ℕ
direction_words true = codes "toward file sender"
direction_words false = codes "toward file receiver"

abbrev pub mode_words : Bool → List ℕ
mode_words true = codes "acknowledged"
mode_words false = codes "unacknowledged"

unfoldable pub flag_fields : Style → Bool → Header → List ℕ
flag_fields style has_crc h =
    plain_field style names.Direction (direction_words h.toward_sender)
    ++ plain_field style names.TransmissionMode (mode_words h.acknowledged)
    ++ flag_field style names.CrcFlag has_crc
    ++ flag_field style names.LargeFileFlag h.large

unfoldable pub id_fields : Style → Header → List ℕ
id_fields style h =
    number_field style names.LengthOfEntityIds h.id_len
    ++ number_field style names.LengthOfTransactionSequenceNumber h.number_len
    ++ number_field style names.SourceEntityId h.source
    ++ number_field style names.TransactionSequenceNumber h.number
    ++ number_field style names.DestinationEntityId h.destination

unfoldable pub header_fields : Style → Bool → Header → List ℕ
header_fields style has_crc h = flag_fields style has_crc h ++ id_fields style h

-- ---- several things of one kind: lines, or a JSON array

abbrev pub list_opening : Style → Name → List ℕ
list_opening Text name = []
list_opening Json name = label Json name ++ codes "["

abbrev pub list_closing : Style → List ℕ
list_closing Text = []
list_closing Json = codes "]"

abbrev pub separator : Style → List ℕ
separator Text = []
separator Json = codes ","

abbrev pub each : {A : Type 0} → Style → (A → List ℕ) → List A → List ℕ
each style item [] = []
each style item (x ∷ xs) = item x ++ flat_map (λ y. separator style ++ item y) xs

unfoldable pub list_text : {A : Type 0} → Style → Name → (A → List ℕ) → List A → List ℕ
list_text style name item xs = list_opening style name ++ each style item xs ++ list_closing style

-- a thing with several fields: its first one is a code
unfoldable pub item_opening : Style → Name → ℕ → List ℕ → List ℕ
item_opening Text name code meaning = code_field Text name code meaning
item_opening Json name code meaning = codes "{\"code\":" ++ decimal code ++ plain_field Json names.Means meaning

abbrev pub item_closing : Style → List ℕ
item_closing Text = []
item_closing Json = codes "}"

abbrev pub second_field : Style → Option (List ℕ) → List ℕ
second_field style None = []
second_field style (Some name) = name_field style names.SecondFileName name

unfoldable pub request_item : Style → RequestFields → List ℕ
request_item style r =
    item_opening style names.FilestoreRequest (code_of r.action) (action_words r.action)
    ++ name_field style names.FirstFileName r.first
    ++ second_field style r.second
    ++ item_closing style

-- the status code is the low half of the octet
unfoldable pub response_item : Style → ResponseFields → List ℕ
response_item style r =
    item_opening style names.FilestoreResponse (code_of (action_of r.status)) (action_words (action_of r.status))
    ++ code_field style names.StatusCode (octet_of r.status % 16) (status_words r.status)
    ++ name_field style names.FirstFileName r.first
    ++ second_field style r.second
    ++ name_field style names.FilestoreMessage r.message
    ++ item_closing style

abbrev pub range_item : Style → ℕ × ℕ → List ℕ
range_item Text range = label Text names.SegmentRequest ++ decimal range.0 ++ codes " to " ++ decimal range.1
    ++ codes "\n"
range_item Json range = codes "[" ++ decimal range.0 ++ codes "," ++ decimal range.1 ++ codes "]"

abbrev pub message_item : Style → List ℕ → List ℕ
message_item Text message = digits_field Text names.MessageToUser message
message_item Json message = codes "\"" ++ encode_lower message ++ codes "\""

-- ---- the data fields

unfoldable pub metadata_fields : Style → List (List ℕ) → MetadataFields → List ℕ
metadata_fields style messages m =
    flag_field style names.ClosureRequested m.closure
    ++ code_field style names.ChecksumType m.checksum_type (checksum_words m.checksum_type)
    ++ number_field style names.FileSize m.size
    ++ name_field style names.SourceFileName m.source_name
    ++ name_field style names.DestinationFileName m.destination_name
    ++ list_text style names.FilestoreRequests (request_item style) m.requests
    ++ list_text style names.MessagesToUser (message_item style) messages

unfoldable pub data_fields : Style → FileDataFields → List ℕ
data_fields style d =
    number_field style names.Offset d.offset ++ number_field style names.OctetsOfFileData (length d.octets)

unfoldable pub eof_fields : Style → Eof → List ℕ
eof_fields style eof =
    code_field style names.ConditionCode eof.condition (condition_words eof.condition)
    ++ digits_field style names.FileChecksum (big_bytes 4 eof.checksum)
    ++ number_field style names.FileSize eof.size

abbrev pub delivery_words : Bool → List ℕ
delivery_words true = codes "Data incomplete"
delivery_words false = codes "Data complete"

abbrev pub fault_field : Style → Option ℕ → List ℕ
fault_field style None = []
fault_field style (Some entity) = number_field style names.FaultLocation entity

unfoldable pub finished_fields : Style → FinishedFields → List ℕ
finished_fields style f =
    code_field style names.ConditionCode f.condition (condition_words f.condition)
    ++ plain_field style names.DeliveryCode (delivery_words f.incomplete)
    ++ code_field style names.FileStatus f.file_status (file_status_words f.file_status)
    ++ list_text style names.FilestoreResponses (response_item style) f.responses
    ++ fault_field style f.fault

unfoldable pub ack_fields : Style → Ack → List ℕ
ack_fields style ack =
    code_field style names.DirectiveCodeOfTheAcknowledgedPdu ack.directive (directive_words ack.directive)
    ++ code_field style names.ConditionCode ack.condition (condition_words ack.condition)
    ++ plain_field style names.TransactionStatus (transaction_words ack.status)

abbrev pub prompt_words : Prompt → List ℕ
prompt_words prompts.Nak = codes "NAK"
prompt_words prompts.KeepAlive = codes "Keep Alive"

unfoldable pub nak_fields : Style → NakFields → List ℕ
nak_fields style nak =
    number_field style names.StartOfScope nak.scope.0
    ++ number_field style names.EndOfScope nak.scope.1
    ++ list_text style names.SegmentRequests (range_item style) nak.requests

-- ---- whole PDUs

-- len: how many octets came;  crc: they had a CRC
abbrev pub pdu_text : Style → ℕ → Bool → PduKind → Header → List ℕ → List ℕ
pdu_text style len crc kind h fields = opening style kind len ++ header_fields style crc h ++ fields
    ++ closing_text style

abbrev pub damaged : Style → ℕ → List ℕ → List ℕ
damaged style len fault = opening style kinds.Damaged len ++ plain_field style names.Fault fault ++ closing_text style

abbrev pub directive_text : Style → ℕ → Bool → Result Directive PduFault → List ℕ
directive_text style len crc (Ok (directives.Ack h ack)) = pdu_text style len crc kinds.Ack h (ack_fields style ack)
directive_text style len crc (Ok (directives.Prompt h prompt)) =
    pdu_text style len crc kinds.Prompt h (plain_field style names.ResponseRequired (prompt_words prompt))
directive_text style len crc (Ok (directives.KeepAlive h alive)) =
    pdu_text style len crc kinds.KeepAlive h (number_field style names.Progress alive.progress)
directive_text style len crc (Err fault) = damaged style len (pdu_fault_text fault)

-- the last does not happen: a NAK PDU has 8,190 requests at most
abbrev pub nak_fault_words : NakFault → List ℕ
nak_fault_words (nak_faults.Pdu fault) = pdu_fault_text fault
nak_fault_words (nak_faults.TooMany count) = codes "there are too many segment requests"

abbrev pub nak_text : Style → ℕ → Bool → Result NakFields NakFault → List ℕ
nak_text style len crc (Ok nak) = pdu_text style len crc kinds.Nak nak.header (nak_fields style nak)
nak_text style len crc (Err fault) = damaged style len (nak_fault_words fault)

abbrev pub other_text : Style → ℕ → Bool → List ℕ → ℕ → List ℕ
other_text style len crc octets code =
    if code == nak_code then nak_text style len crc (nak_within 8190 octets)
    else directive_text style len crc (directive_spelled octets)

abbrev pub read_text : Style → ℕ → Bool → List ℕ → Result Pdu PduFault → List ℕ
read_text style len crc octets (Ok (pdus.Metadata h m)) =
    pdu_text style len crc kinds.Metadata h (metadata_fields style (messages_at octets) m)
read_text style len crc octets (Ok (pdus.FileData h d)) = pdu_text style len crc kinds.FileData h (data_fields style d)
read_text style len crc octets (Ok (pdus.Eof h eof)) = pdu_text style len crc kinds.Eof h (eof_fields style eof)
read_text style len crc octets (Ok (pdus.Finished h f)) =
    pdu_text style len crc kinds.Finished h (finished_fields style f)
read_text style len crc octets (Ok (pdus.NotOurs h code)) = other_text style len crc octets code
read_text style len crc octets (Err fault) = damaged style len (pdu_fault_text fault)

abbrev pub crc_words : CrcFault → List ℕ
crc_words crc.Truncated = codes "the PDU is cut"
crc_words crc.BadVersion = codes "the version is not 001"
crc_words crc.LengthMismatch = codes "the data field has another length"
crc_words crc.BadCrc = codes "the CRC is wrong"

-- with a CRC there were more octets
abbrev pub unsealed_text : Style → ℕ → Result (List ℕ) CrcFault → List ℕ
unsealed_text style len (Ok plain) = read_text style len (nat_lt (length plain) len) plain (pdu_at plain)
unsealed_text style len (Err fault) = damaged style len (crc_words fault)

abbrev pub pdu_shown : Style → List ℕ → List ℕ
pdu_shown style octets = unsealed_text style (length octets) (unsealed octets)
