-- The one spelling in which a PDU is written: spare bits 0, and no TLV that a reader passes over but
-- the fault location (CCSDS 727.0-B-5 §5.1 to §5.3).
--   IsHeader header              the lengths are 1 to 8, and the numbers fit them
--   pdu_octets                   a header, and a data field after it
--   metadata_field, file_data_field, eof_field, finished_field
--                                the data fields
--   IsSizedMetadata ..           the other numbers fit their fields
--   IsAnswerable request         a request that its reader takes, and whose names a response can repeat
--   metadata_fits, finished_fits, file_data_fits
--                                each length fits its field
use Rattle.std.specs.Prelude.{◌≤◌, ◌<◌, ℕ, ◌+◌, ◌-◌, ◌*◌, ◌^◌, ◌==◌, ◌&&◌, nat_le, if◌then◌else◌, Bool, not, List, [], ◌∷◌, ◌++◌, length, Option, Some, None, IfSome}
use Rattle.std.specs.List.{flat_map, list_all}
use Rattle.byteorder.specs.Endian.{big_bytes}
use Rattle.cfdp_tlv.specs.Types.{filestore_request_type, filestore_response_type, entity_id_type}
use Rattle.cfdp_tlv.specs.Field.{lv, tlv}
use Rattle.cfdp_tlv.specs.Values.{RequestFields, ResponseFields, IsRequest}
use Rattle.cfdp_tlv.specs.Grammar.{request_octets, response_octets}
use Rattle.cfdp_pdus.specs.declared.header.Header.{Header}
use Rattle.cfdp_pdus.specs.declared.eof.Eof.{Eof}
use Rattle.cfdp_pdus.specs.Values.{MetadataFields, FileDataFields, FinishedFields}
use Rattle.cfdp_pdus.specs.Bits.{one_if, fss}
use Rattle.cfdp_pdus.specs.Codes.{no_error, eof_code, finished_code, metadata_code}

-- ---- the header

pub record IsHeader (header : Header) : Type 0 where
  pub id_low : 1 ≤ header.id_len
  pub id_high : header.id_len ≤ 8
  pub number_low : 1 ≤ header.number_len
  pub number_high : header.number_len ≤ 8
  pub source : header.source < 256 ^ header.id_len
  pub number : header.number < 256 ^ header.number_len
  pub destination : header.destination < 256 ^ header.id_len

abbrev pub first_octet : Bool → Header → ℕ
first_octet file_data header =
    32 + 16 * one_if file_data + 8 * one_if header.toward_sender + 4 * one_if (not header.acknowledged)
    + one_if header.large

abbrev pub fourth_octet : Header → ℕ
fourth_octet header = 16 * (header.id_len - 1) + (header.number_len - 1)

abbrev pub names_octets : Header → List ℕ
names_octets header =
    big_bytes header.id_len header.source ++ (big_bytes header.number_len header.number
    ++ big_bytes header.id_len header.destination)

-- up to the data field, which has len octets
abbrev pub header_octets : Bool → Header → ℕ → List ℕ
header_octets file_data header len =
    first_octet file_data header ∷ (big_bytes 2 len ++ (fourth_octet header ∷ names_octets header))

abbrev pub pdu_octets : Bool → Header → List ℕ → List ℕ
pdu_octets file_data header field = header_octets file_data header (length field) ++ field

-- ---- Metadata

abbrev pub request_field : RequestFields → List ℕ
request_field request = tlv filestore_request_type (request_octets request)

unfoldable pub metadata_field : Bool → MetadataFields → List ℕ
metadata_field large metadata =
    metadata_code ∷ (64 * one_if metadata.closure + metadata.checksum_type)
    ∷ (big_bytes (fss large) metadata.size ++ (lv metadata.source_name
    ++ (lv metadata.destination_name ++ flat_map request_field metadata.requests)))

pub record IsSizedMetadata (large : Bool) (metadata : MetadataFields) : Type 0 where
  pub checksum_type : metadata.checksum_type < 16
  pub size : metadata.size < 256 ^ fss large

-- a request that its reader takes, and whose names a response can repeat
pub record IsAnswerable (request : RequestFields) : Type 0 where
  pub complete : IsRequest request
  pub short : length (request_octets request) < 255

abbrev pub is_short_request : RequestFields → Bool
is_short_request request = nat_le (length (request_octets request)) 255

unfoldable pub metadata_fits : Bool → MetadataFields → Bool
metadata_fits large metadata =
    nat_le (length metadata.source_name) 255 && nat_le (length metadata.destination_name) 255
    && list_all is_short_request metadata.requests && nat_le (length (metadata_field large metadata)) 65535

-- ---- File Data

unfoldable pub file_data_field : Bool → FileDataFields → List ℕ
file_data_field large file_data = big_bytes (fss large) file_data.offset ++ file_data.octets

pub record IsSizedFileData (large : Bool) (file_data : FileDataFields) : Type 0 where
  pub offset : file_data.offset < 256 ^ fss large

unfoldable pub file_data_fits : Bool → FileDataFields → Bool
file_data_fits large file_data = nat_le (length (file_data_field large file_data)) 65535

-- ---- EOF

-- the entity at which the transaction was ended
abbrev pub location : ℕ → ℕ → List ℕ
location id_len entity = tlv entity_id_type (big_bytes id_len entity)

-- the source entity, where the condition is not 'no error'
abbrev pub eof_location : Header → Eof → List ℕ
eof_location header eof = if eof.condition == no_error then [] else location header.id_len header.source

unfoldable pub eof_field : Header → Eof → List ℕ
eof_field header eof =
    eof_code ∷ (16 * eof.condition) ∷ (big_bytes 4 eof.checksum
    ++ (big_bytes (fss header.large) eof.size ++ eof_location header eof))

pub record IsSizedEof (large : Bool) (eof : Eof) : Type 0 where
  pub condition : eof.condition < 16
  pub size : eof.size < 256 ^ fss large

-- ---- Finished

abbrev pub response_field : ResponseFields → List ℕ
response_field response = tlv filestore_response_type (response_octets response)

abbrev pub fault_location : ℕ → Option ℕ → List ℕ
fault_location id_len None = []
fault_location id_len (Some entity) = location id_len entity

unfoldable pub finished_field : Header → FinishedFields → List ℕ
finished_field header finished =
    finished_code ∷ (16 * finished.condition + 4 * one_if finished.incomplete + finished.file_status)
    ∷ (flat_map response_field finished.responses ++ fault_location header.id_len finished.fault)

pub record IsSizedFinished (header : Header) (finished : FinishedFields) : Type 0 where
  pub condition : finished.condition < 16
  pub file_status : finished.file_status < 4
  pub fault : IfSome finished.fault (λ entity. entity < 256 ^ header.id_len)

abbrev pub is_short_response : ResponseFields → Bool
is_short_response response = nat_le (length (response_octets response)) 255

unfoldable pub finished_fits : Header → FinishedFields → Bool
finished_fits header finished =
    list_all is_short_response finished.responses && nat_le (length (finished_field header finished)) 65535
