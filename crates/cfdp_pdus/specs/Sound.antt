-- What holds of each PDU that was read, beside what its octets spell.
--   IsSound pdu    the header's lengths are 1 to 8 and its numbers fit them; each number of the data
--                  field fits its field; a response can repeat each filestore request
--   IsLean pdu     it hands out no octets: an EOF PDU, and one that is not ours
--   IsNoFileData read  reading gives no File Data PDU
use Rattle.std.specs.Prelude.{◌<◌, ⊤, Result, Ok}
use Rattle.std.specs.List.{AllByRecursion}
use Rattle.cfdp_pdus.specs.declared.header.Header.{Header}
use Rattle.cfdp_pdus.specs.declared.pdu.Pdu.{Pdu}
use Rattle.cfdp_pdus.specs.declared.pdu.Pdu.TheVariants as pdus
use Rattle.cfdp_pdus.specs.declared.fault.PduFault.{PduFault}
use Rattle.cfdp_pdus.specs.Values.{MetadataFields, FinishedFields}
use Rattle.cfdp_pdus.specs.Canonical.{IsHeader, IsSizedMetadata, IsSizedFileData, IsSizedEof, IsAnswerable}

pub record IsSoundMetadata (header : Header) (metadata : MetadataFields) : Type 0 where
  pub header_fits : IsHeader header
  pub sized : IsSizedMetadata header.large metadata
  pub answerable : AllByRecursion IsAnswerable metadata.requests

-- a fault location has a length of its own, whatever the header's is
pub record IsSoundFinished (header : Header) (finished : FinishedFields) : Type 0 where
  pub header_fits : IsHeader header
  pub condition : finished.condition < 16
  pub file_status : finished.file_status < 4

abbrev pub IsSound : Pdu → Type 0
IsSound (pdus.Metadata header metadata) = IsSoundMetadata header metadata
IsSound (pdus.FileData header file_data) = IsHeader header × IsSizedFileData header.large file_data
IsSound (pdus.Eof header eof) = IsHeader header × IsSizedEof header.large eof
IsSound (pdus.Finished header finished) = IsSoundFinished header finished
IsSound (pdus.NotOurs header code) = IsHeader header

abbrev pub IsLean : Pdu → Type 0
IsLean (pdus.Metadata header metadata) = ⊥
IsLean (pdus.FileData header file_data) = ⊥
IsLean (pdus.Eof header eof) = Unit {0}
IsLean (pdus.Finished header finished) = ⊥
IsLean (pdus.NotOurs header code) = Unit {0}

abbrev pub IsNoFileData : Result Pdu PduFault → Type 0
IsNoFileData (Ok (pdus.FileData header file_data)) = ⊥
IsNoFileData read = ⊤
