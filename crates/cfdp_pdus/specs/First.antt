-- Reading PDUs from left to right, with the fault that comes first.
--   number_at fault len octets    the number in the first len octets, and what is after them
--   fields_at octets              the TLV fields from the left, each as Some; None where one is cut
--   requests_of fields            the requests among the fields of a Metadata PDU
--   outcome_fields fields         the responses and the last fault location of a Finished PDU
--   all_whole fields              no field is cut
--   start_at octets               the header, what kind of PDU it is, and its data field
--   pdu_at octets                 the PDU that the octets spell, or the first fault
use Rattle.std.specs.Prelude.{ℕ, zero, suc, ◌+◌, ◌*◌, ◌/◌, ◌%◌, ◌==◌, ◌&&◌, nat_lt, nat_le, if◌then◌else◌, Bool, true, false, not, List, [], ◌∷◌, length, drop, Option, Some, None, Result, Ok, Err}
use Rattle.byteorder.specs.Endian.{big_number}
use Rattle.cfdp_tlv.specs.Types.{filestore_request_type, filestore_response_type, entity_id_type}
use Rattle.cfdp_tlv.specs.Field.{lv_at, tlv_at}
use Rattle.cfdp_tlv.specs.Values.{RequestFields, ResponseFields}
use Rattle.cfdp_tlv.specs.Grammar.{request_at, response_at}
use Rattle.cfdp_tlv.specs.declared.fault.TlvFault.{TlvFault}
use Rattle.cfdp_pdus.specs.declared.fault.PduFault.{PduFault}
use Rattle.cfdp_pdus.specs.declared.fault.PduFault.TheVariants.{Truncated, BadVersion, CrcNotSupported, LengthMismatch, BadDirective, BadTlv, RequestTooLong}
use Rattle.cfdp_pdus.specs.declared.header.Header.{Header}
use Rattle.cfdp_pdus.specs.declared.eof.Eof.{Eof}
use Rattle.cfdp_pdus.specs.declared.pdu.Pdu.{Pdu}
use Rattle.cfdp_pdus.specs.declared.pdu.Pdu.TheVariants as pdus
use Rattle.cfdp_pdus.specs.Values.{MetadataFields, FileDataFields, FinishedFields}
use Rattle.cfdp_pdus.specs.Bits.{flag, fss}
use Rattle.cfdp_pdus.specs.Codes.{eof_code, finished_code, ack_code, metadata_code, nak_code, prompt_code, keep_alive_code}
use Rattle.cfdp_tlv.specs.Reading.{◌>>=◌}
use Rattle.cfdp_pdus.specs.Reading.{mend}
use Rattle.cfdp_pdus.specs.Grammar.{Field}

unfoldable pub number_at : PduFault → ℕ → List ℕ → Result (ℕ × List ℕ) PduFault
number_at fault len octets = if nat_lt (length octets) len then Err fault
    else Ok (big_number len octets, drop len octets)

-- ---- TLV fields

-- the field at the front, and those after it
abbrev pub front_field : Result (ℕ × List ℕ × List ℕ) TlvFault → (List ℕ → List (Option Field)) → List (Option Field)
front_field (Ok field) next = Some (field.0, field.1) ∷ next field.2
front_field (Err fault) next = None ∷ []

-- the first fields, of at most this many
unfoldable pub some_fields_at : ℕ → List ℕ → List (Option Field)
some_fields_at zero octets = []
some_fields_at (suc count) [] = []
some_fields_at (suc count) (octet ∷ octets) = front_field (tlv_at (octet ∷ octets)) (some_fields_at count)

-- all of them, since each has an octet at least
unfoldable pub fields_at : List ℕ → List (Option Field)
fields_at octets = some_fields_at (length octets) octets

-- a request, of which a response can repeat each name
unfoldable pub asked_at : List ℕ → Result RequestFields PduFault
asked_at value = do
  request ← mend BadTlv (request_at value)
  if nat_lt (length value) 255 then Ok request else Err RequestTooLong

unfoldable pub requests_of : List (Option Field) → Result (List RequestFields) PduFault
requests_of [] = Ok []
requests_of (None ∷ fields) = Err BadTlv
requests_of (Some field ∷ fields) =
    if field.0 == filestore_request_type
    then (asked_at field.1 >>= λ request. requests_of fields >>= λ requests. Ok (request ∷ requests))
    else requests_of fields

abbrev pub or_else : Option ℕ → Option ℕ → Option ℕ
or_else (Some x) other = Some x
or_else None other = other

-- an entity ID of 1 to 8 octets
unfoldable pub entity_at : List ℕ → Result ℕ PduFault
entity_at value =
    if nat_le 1 (length value) && nat_le (length value) 8 then Ok (big_number (length value) value) else Err BadTlv

abbrev pub answered_at : List ℕ → Result ResponseFields PduFault
answered_at value = mend BadTlv (response_at value)

unfoldable pub outcome_fields : List (Option Field) → Result (List ResponseFields × Option ℕ) PduFault
outcome_fields [] = Ok ([], None)
outcome_fields (None ∷ fields) = Err BadTlv
outcome_fields (Some field ∷ fields) =
    if field.0 == filestore_response_type
    then (answered_at field.1 >>= λ response. outcome_fields fields >>= λ others. Ok (response ∷ others.0, others.1))
    else if field.0 == entity_id_type
    then (entity_at field.1 >>= λ entity. outcome_fields fields >>= λ others. Ok
    (others.0, or_else others.1 (Some entity)))
    else outcome_fields fields

unfoldable pub all_whole : List (Option Field) → Result (Unit {0}) PduFault
all_whole [] = Ok tt
all_whole (None ∷ fields) = Err BadTlv
all_whole (Some field ∷ fields) = all_whole fields

-- ---- data fields

abbrev pub name_field_at : List ℕ → Result (List ℕ × List ℕ) PduFault
name_field_at octets = mend LengthMismatch (lv_at octets)

unfoldable pub metadata_at : Bool → List ℕ → Result MetadataFields PduFault
metadata_at large [] = Err LengthMismatch
metadata_at large (flags ∷ octets) = do
  size ← number_at LengthMismatch (fss large) octets
  source ← name_field_at size.1
  destination ← name_field_at source.1
  requests ← requests_of (fields_at destination.1)
  Ok (record {
    closure = flag 6 flags;
    checksum_type = flags % 16;
    size = size.0;
    source_name = source.0;
    destination_name = destination.0;
    requests = requests;
  })

-- what is after the continuation state and the segment metadata, where there are any
unfoldable pub after_segment : Bool → List ℕ → Result (List ℕ) PduFault
after_segment false octets = Ok octets
after_segment true [] = Err LengthMismatch
after_segment true (state ∷ octets) =
    if nat_lt (length octets) (state % 64) then Err LengthMismatch else Ok (drop (state % 64) octets)

unfoldable pub file_data_at : Bool → Bool → List ℕ → Result FileDataFields PduFault
file_data_at large segment_metadata octets = do
  segment ← after_segment segment_metadata octets
  offset ← number_at LengthMismatch (fss large) segment
  Ok (record { offset = offset.0; octets = offset.1 })

unfoldable pub eof_at : Bool → List ℕ → Result Eof PduFault
eof_at large [] = Err LengthMismatch
eof_at large (condition ∷ octets) = do
  checksum ← number_at LengthMismatch 4 octets
  size ← number_at LengthMismatch (fss large) checksum.1
  whole ← all_whole (fields_at size.1)
  Ok (record { condition = condition / 16; checksum = checksum.0; size = size.0 })

unfoldable pub finished_at : List ℕ → Result FinishedFields PduFault
finished_at [] = Err LengthMismatch
finished_at (flags ∷ octets) = do
  outcome ← outcome_fields (fields_at octets)
  Ok (record {
    condition = flags / 16;
    incomplete = flag 2 flags;
    file_status = flags % 4;
    responses = outcome.0;
    fault = outcome.1;
  })

-- ---- whole PDUs

-- the header, what kind of PDU it is, and its data field
pub record Start : Type 0 where
  pub file_data : Bool
  pub segment_metadata : Bool
  pub header : Header
  pub field : List ℕ

-- after the first octet
unfoldable pub header_at : ℕ → List ℕ → Result Start PduFault
header_at first (high ∷ low ∷ fourth ∷ octets) = do
  source ← number_at Truncated (fourth / 16 % 8 + 1) octets
  number ← number_at Truncated (fourth % 8 + 1) source.1
  destination ← number_at Truncated (fourth / 16 % 8 + 1) number.1
  if nat_lt (length destination.1) (256 * high + low) then Err Truncated
      else if nat_lt (256 * high + low) (length destination.1) then Err LengthMismatch
      else Ok (record {
        file_data = flag 4 first;
        segment_metadata = flag 3 fourth;
        header = record {
          toward_sender = flag 3 first;
          acknowledged = not (flag 2 first);
          large = flag 0 first;
          id_len = fourth / 16 % 8 + 1;
          number_len = fourth % 8 + 1;
          source = source.0;
          number = number.0;
          destination = destination.0;
        };
        field = destination.1;
      })
header_at first octets = Err Truncated

unfoldable pub start_at : List ℕ → Result Start PduFault
start_at [] = Err Truncated
start_at (first ∷ octets) =
    if first / 32 == 1
    then (if flag 1 first then Err CrcNotSupported else header_at first octets)
    else Err BadVersion

unfoldable pub directive_at : Header → List ℕ → Result Pdu PduFault
directive_at header [] = Err LengthMismatch
directive_at header (code ∷ octets) =
    if code == metadata_code then (metadata_at header.large octets >>= λ metadata. Ok (pdus.Metadata header metadata))
    else if code == eof_code then (eof_at header.large octets >>= λ eof. Ok (pdus.Eof header eof))
    else if code == finished_code then (finished_at octets >>= λ finished. Ok (pdus.Finished header finished))
    else if code == ack_code then Ok (pdus.NotOurs header ack_code)
    else if code == nak_code then Ok (pdus.NotOurs header nak_code)
    else if code == prompt_code then Ok (pdus.NotOurs header prompt_code)
    else if code == keep_alive_code then Ok (pdus.NotOurs header keep_alive_code)
    else Err BadDirective

unfoldable pub field_at : Start → Result Pdu PduFault
field_at start =
    if start.file_data
    then (file_data_at start.header.large start.segment_metadata start.field >>= λ file_data.
    Ok (pdus.FileData start.header file_data))
    else directive_at start.header start.field

abbrev pub pdu_at : List ℕ → Result Pdu PduFault
pdu_at octets = start_at octets >>= field_at
