-- The grammar of PDUs: what octets spell what (CCSDS 727.0-B-5 §5.1 to §5.3).
--   field_octets fields                  TLV fields, each a type and a value, one after the other
--   values_of kind fields                the values of the fields of one type, in order
--   HasHeader first fourth names header  the first octet, the fourth, and the octets of the three
--                                        names say the header
--   EachAsks values requests             each value is a request, of at most 254 octets
--   EachTells values responses           each value is a response
--   IsEntity value                       an entity ID of 1 to 8 octets
--   last_entity values                   the number in the last value
--   SpellsMetadata, SpellsFileData, SpellsEof, SpellsFinished
--                                        the octets of the data field, after a directive code
--   IsOther code                         the directives that another entity makes and consumes:
--                                        ACK, NAK, Prompt, Keep Alive
--   SpellsField                          the whole data field
--   SpellsPdu octets pdu                 the octets spell the PDU
use Rattle.std.specs.Prelude.{◌≡◌, ◌≤◌, ◌<◌, ◌⊎◌, ℕ, ◌+◌, ◌*◌, ◌/◌, ◌%◌, ◌==◌, if◌then◌else◌, Bool, true, false, not, List, [], ◌∷◌, ◌++◌, length, Option, Some, None}
use Rattle.byteorder.specs.Endian.{big_number}
use Rattle.cfdp_tlv.specs.Types.{filestore_request_type, filestore_response_type, entity_id_type}
use Rattle.cfdp_tlv.specs.Field.{lv, tlv}
use Rattle.cfdp_tlv.specs.Values.{RequestFields, ResponseFields}
use Rattle.cfdp_tlv.specs.Grammar.{SpellsRequest, SpellsResponse}
use Rattle.cfdp_pdus.specs.declared.header.Header.{Header}
use Rattle.cfdp_pdus.specs.declared.eof.Eof.{Eof}
use Rattle.cfdp_pdus.specs.declared.pdu.Pdu.{Pdu}
use Rattle.cfdp_pdus.specs.declared.pdu.Pdu.TheVariants as pdus
use Rattle.cfdp_pdus.specs.Values.{MetadataFields, FileDataFields, FinishedFields}
use Rattle.cfdp_pdus.specs.Bits.{flag, IsNumber, fss}
use Rattle.cfdp_pdus.specs.Codes.{eof_code, finished_code, ack_code, metadata_code, nak_code, prompt_code, keep_alive_code}

-- ---- TLV fields

abbrev pub Field : Type 0
Field = ℕ × List ℕ

abbrev pub field_octets : List Field → List ℕ
field_octets [] = []
field_octets (field ∷ fields) = tlv field.0 field.1 ++ field_octets fields

abbrev pub values_of : ℕ → List Field → List (List ℕ)
values_of kind [] = []
values_of kind (field ∷ fields) = if field.0 == kind then field.1 ∷ values_of kind fields else values_of kind fields

abbrev pub EachAsks : List (List ℕ) → List RequestFields → Type 0
EachAsks [] [] = Unit {0}
EachAsks [] (request ∷ requests) = ⊥
EachAsks (value ∷ values) [] = ⊥
EachAsks (value ∷ values) (request ∷ requests) = SpellsRequest value request × (length value < 255)
    × EachAsks values requests

abbrev pub EachTells : List (List ℕ) → List ResponseFields → Type 0
EachTells [] [] = Unit {0}
EachTells [] (response ∷ responses) = ⊥
EachTells (value ∷ values) [] = ⊥
EachTells (value ∷ values) (response ∷ responses) = SpellsResponse value response × EachTells values responses

abbrev pub IsEntity : List ℕ → Type 0
IsEntity value = (1 ≤ length value) × (length value ≤ 8)

abbrev pub AreEntities : List (List ℕ) → Type 0
AreEntities [] = Unit {0}
AreEntities (value ∷ values) = IsEntity value × AreEntities values

abbrev pub last_entity : List (List ℕ) → Option ℕ
last_entity [] = None
last_entity (value ∷ []) = Some (big_number (length value) value)
last_entity (value ∷ next ∷ values) = last_entity (next ∷ values)

-- ---- the header

pub record HasHeader (first fourth : ℕ) (names : List ℕ) (header : Header) : Type 0 where
  pub version : first / 32 ≡ 1
  pub no_crc : flag 1 first ≡ false
  pub direction : header.toward_sender ≡ flag 3 first
  pub mode : header.acknowledged ≡ not (flag 2 first)
  pub large : header.large ≡ flag 0 first
  pub id_len : header.id_len ≡ fourth / 16 % 8 + 1
  pub number_len : header.number_len ≡ fourth % 8 + 1
  pub source_octets : List ℕ
  pub number_octets : List ℕ
  pub destination_octets : List ℕ
  pub parts : names ≡ source_octets ++ (number_octets ++ destination_octets)
  pub source : IsNumber source_octets header.id_len header.source
  pub number : IsNumber number_octets header.number_len header.number
  pub destination : IsNumber destination_octets header.id_len header.destination

-- ---- data fields

pub record SpellsMetadata (large : Bool) (octets : List ℕ) (metadata : MetadataFields) : Type 0 where
  pub flags : ℕ
  pub size_octets : List ℕ
  pub options : List Field
  pub parts : octets ≡ flags ∷ (size_octets ++ (lv metadata.source_name
      ++ (lv metadata.destination_name ++ field_octets options)))
  pub closure : metadata.closure ≡ flag 6 flags
  pub checksum_type : metadata.checksum_type ≡ flags % 16
  pub size : IsNumber size_octets (fss large) metadata.size
  pub requests : EachAsks (values_of filestore_request_type options) metadata.requests

-- continuation state and segment metadata, where the header says that they are there
abbrev pub IsSegment : Bool → List ℕ → Type 0
IsSegment false segment = segment ≡ []
IsSegment true [] = ⊥
IsSegment true (state ∷ metadata) = length metadata ≡ state % 64

pub record SpellsFileData (large segment_metadata : Bool) (octets : List ℕ) (file_data : FileDataFields) : Type 0 where
  pub segment : List ℕ
  pub offset_octets : List ℕ
  pub parts : octets ≡ segment ++ (offset_octets ++ file_data.octets)
  pub state : IsSegment segment_metadata segment
  pub offset : IsNumber offset_octets (fss large) file_data.offset

pub record SpellsEof (large : Bool) (octets : List ℕ) (eof : Eof) : Type 0 where
  pub condition_octet : ℕ
  pub checksum_octets : List ℕ
  pub size_octets : List ℕ
  pub fields : List Field
  pub parts : octets ≡ condition_octet ∷ (checksum_octets ++ (size_octets ++ field_octets fields))
  pub condition : eof.condition ≡ condition_octet / 16
  pub checksum : IsNumber checksum_octets 4 eof.checksum
  pub size : IsNumber size_octets (fss large) eof.size

pub record SpellsFinished (octets : List ℕ) (finished : FinishedFields) : Type 0 where
  pub flags : ℕ
  pub fields : List Field
  pub parts : octets ≡ flags ∷ field_octets fields
  pub condition : finished.condition ≡ flags / 16
  pub incomplete : finished.incomplete ≡ flag 2 flags
  pub file_status : finished.file_status ≡ flags % 4
  pub responses : EachTells (values_of filestore_response_type fields) finished.responses
  pub entities : AreEntities (values_of entity_id_type fields)
  pub fault : finished.fault ≡ last_entity (values_of entity_id_type fields)

abbrev pub IsOther : ℕ → Type 0
IsOther code = (code ≡ ack_code) ⊎ (code ≡ nak_code) ⊎ (code ≡ prompt_code) ⊎ (code ≡ keep_alive_code)

-- ---- whole PDUs

abbrev pub header_of : Pdu → Header
header_of (pdus.Metadata header metadata) = header
header_of (pdus.FileData header file_data) = header
header_of (pdus.Eof header eof) = header
header_of (pdus.Finished header finished) = header
header_of (pdus.NotOurs header code) = header

-- after a directive code
abbrev pub SpellsDirective : ℕ → List ℕ → Pdu → Type 0
SpellsDirective code octets (pdus.Metadata header metadata) =
    (code ≡ metadata_code) × SpellsMetadata header.large octets metadata
SpellsDirective code octets (pdus.FileData header file_data) = ⊥
SpellsDirective code octets (pdus.Eof header eof) = (code ≡ eof_code) × SpellsEof header.large octets eof
SpellsDirective code octets (pdus.Finished header finished) = (code ≡ finished_code) × SpellsFinished octets finished
SpellsDirective code octets (pdus.NotOurs header other) = (code ≡ other) × IsOther code

-- file data, with segment metadata or not, or a directive
abbrev pub SpellsField : Bool → Bool → List ℕ → Pdu → Type 0
SpellsField true segment_metadata octets (pdus.FileData header file_data) =
    SpellsFileData header.large segment_metadata octets file_data
SpellsField true segment_metadata octets pdu = ⊥
SpellsField false segment_metadata [] pdu = ⊥
SpellsField false segment_metadata (code ∷ octets) pdu = SpellsDirective code octets pdu

-- the four octets that say how the rest lies, and the rest
pub record HasPdu (first high low fourth : ℕ) (rest : List ℕ) (pdu : Pdu) : Type 0 where
  pub names : List ℕ
  pub field : List ℕ
  pub parts : rest ≡ names ++ field
  pub field_len : length field ≡ 256 * high + low
  pub header : HasHeader first fourth names (header_of pdu)
  pub spelled : SpellsField (flag 4 first) (flag 3 fourth) field pdu

abbrev pub SpellsPdu : List ℕ → Pdu → Type 0
SpellsPdu (first ∷ high ∷ low ∷ fourth ∷ rest) pdu = HasPdu first high low fourth rest pdu
SpellsPdu (first ∷ high ∷ low ∷ []) pdu = ⊥
SpellsPdu (first ∷ high ∷ []) pdu = ⊥
SpellsPdu (first ∷ []) pdu = ⊥
SpellsPdu [] pdu = ⊥
