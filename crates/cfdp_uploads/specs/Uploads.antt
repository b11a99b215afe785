-- An upload: what a file's sender sends in one transaction (CCSDS 727.0-B-5 §5.2 to §5.3, copy file procedures).
--   UploadFields          the header of its PDUs, its Metadata, the octets of the file, how many octets a piece has,
--                         and the indices of the pieces in the order in which they are sent
--   piece_count           how many pieces a file of some size has; the last one may be shorter
--   piece_of              the piece with an index: octets of the file, at their offset
--   eof_of                the EOF: no error, and the checksum and the size of the file
--   upload_pdus           the PDUs in the order in which they are sent: the Metadata, the pieces, the EOF
--   sent_octets           the octets in which such a PDU is written
--   upload_of             an upload that is made: each PDU goes toward the receiver, and the Metadata has the file's
--                         size and says that its checksum is the modular one
--   IsUpload              what holds of an upload: each number and each length fits its field, and each piece is sent
use Rattle.std.specs.Prelude.{◌≡◌, ◌≤◌, ◌<◌, ℕ, ◌+◌, ◌*◌, ◌/◌, ◌%◌, ◌==◌, if◌then◌else◌, Bool, true, false, List, [], ◌∷◌, ◌++◌, length, map, take, drop}
use Rattle.std.specs.List.{AllByRecursion, list_any}
use Rattle.cfdp_checksum.specs.Checksum.{checksum}
use Rattle.cfdp_pdus.specs.declared.header.Header.{Header}
use Rattle.cfdp_pdus.specs.declared.eof.Eof.{Eof}
use Rattle.cfdp_pdus.specs.declared.pdu.Pdu.{Pdu}
use Rattle.cfdp_pdus.specs.declared.pdu.Pdu.TheVariants as pdus
use Rattle.cfdp_pdus.specs.Values.{MetadataFields, FileDataFields}
use Rattle.cfdp_pdus.specs.Bits.{fss}
use Rattle.cfdp_pdus.specs.Codes.{no_error, modular_checksum_type}
use Rattle.cfdp_pdus.specs.Canonical.{IsHeader, IsSizedMetadata, IsAnswerable, metadata_fits, metadata_field, file_data_field, eof_field, finished_field, pdu_octets}

pub record UploadFields : Type 0 where
  pub header : Header
  pub metadata : MetadataFields
  pub file : List ℕ
  pub segment : ℕ
  pub order : List ℕ

abbrev pub piece_count : (size segment : ℕ) → ℕ
piece_count size segment = size / segment + (if size % segment == 0 then 0 else 1)

abbrev pub pieces_of : UploadFields → ℕ
pieces_of u = piece_count (length u.file) u.segment

abbrev pub piece_of : UploadFields → ℕ → FileDataFields
piece_of u index = record { offset = u.segment * index; octets = take u.segment (drop (u.segment * index) u.file) }

abbrev pub eof_of : UploadFields → Eof
eof_of u = record { condition = no_error; checksum = checksum u.file; size = length u.file }

abbrev pub piece_pdu : UploadFields → ℕ → Pdu
piece_pdu u index = pdus.FileData u.header (piece_of u index)

abbrev pub upload_pdus : UploadFields → List Pdu
upload_pdus u = pdus.Metadata u.header u.metadata ∷ (map (piece_pdu u) u.order ++ pdus.Eof u.header (eof_of u) ∷ [])

-- the last two have octets so that each PDU has: no upload has such PDUs
abbrev pub sent_octets : Pdu → List ℕ
sent_octets (pdus.Metadata header metadata) = pdu_octets false header (metadata_field header.large metadata)
sent_octets (pdus.FileData header file_data) = pdu_octets true header (file_data_field header.large file_data)
sent_octets (pdus.Eof header eof) = pdu_octets false header (eof_field header eof)
sent_octets (pdus.Finished header finished) = pdu_octets false header (finished_field header finished)
sent_octets (pdus.NotOurs header code) = []

abbrev pub upload_of : Header → MetadataFields → List ℕ → ℕ → List ℕ → UploadFields
upload_of header metadata file segment order = record {
  header = record header { toward_sender = false };
  metadata = record metadata { checksum_type = modular_checksum_type; size = length file };
  file = file;
  segment = segment;
  order = order;
}

abbrev pub is_sent : List ℕ → ℕ → Bool
is_sent order index = list_any (λ sent. sent == index) order

pub record IsUpload (u : UploadFields) : Type 0 where
  pub header : IsHeader u.header
  pub toward_receiver : u.header.toward_sender ≡ false
  pub sized : IsSizedMetadata u.header.large u.metadata
  pub fits : metadata_fits u.header.large u.metadata ≡ true
  pub answerable : AllByRecursion IsAnswerable u.metadata.requests
  pub modular : u.metadata.checksum_type ≡ modular_checksum_type
  pub size : u.metadata.size ≡ length u.file
  pub some : 1 ≤ u.segment
  pub short : u.segment + fss u.header.large ≤ 65535
  pub within : AllByRecursion (λ index. index < pieces_of u) u.order
  pub each : (index : ℕ) → index < pieces_of u → is_sent u.order index ≡ true
