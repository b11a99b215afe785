-- What is true of the PDUs of an upload.
--   ReadBack        the octets of each one spell it: a reader of PDUs gives exactly the Metadata, the pieces and the
--                   EOF
--   IsPart          octets of the file, at their offset
--   PartsOfFile     each piece is a part of the file
--   IsBrought       the octet of the file at an offset is in one of the pieces that are sent
--   WholeFile       each octet is
use Rattle.std.specs.Prelude.{◌≡◌, ◌≤◌, ◌<◌, ℕ, ◌+◌, List, length, take, drop, Contains}
use Rattle.std.specs.List.{AllByRecursion}
use Rattle.cfdp_pdus.specs.Grammar.{SpellsPdu}
use Rattle.cfdp_pdus.specs.Values.{FileDataFields}
use Rattle.cfdp_uploads.specs.Uploads.{UploadFields, IsUpload, piece_of, upload_pdus, sent_octets}

abbrev pub ReadBack : Type 0
ReadBack = (u : UploadFields) → IsUpload u → AllByRecursion (λ pdu. SpellsPdu (sent_octets pdu) pdu) (upload_pdus u)

pub record IsPart (file : List ℕ) (piece : FileDataFields) : Type 0 where
  pub within : piece.offset + length piece.octets ≤ length file
  pub same : piece.octets ≡ take (length piece.octets) (drop piece.offset file)

abbrev pub PartsOfFile : Type 0
PartsOfFile = (u : UploadFields) → IsUpload u → AllByRecursion (λ index. IsPart u.file (piece_of u index)) u.order

pub record IsBrought (u : UploadFields) (offset : ℕ) : Type 0 where
  pub index : ℕ
  pub sent : Contains u.order index
  pub from : (piece_of u index).offset ≤ offset
  pub to : offset < (piece_of u index).offset + length (piece_of u index).octets

abbrev pub WholeFile : Type 0
WholeFile = (u : UploadFields) → IsUpload u → (offset : ℕ) → offset < length u.file → IsBrought u offset
