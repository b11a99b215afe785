-- What the PDUs say, without where it lies in memory (CCSDS 727.0-B-5 §5.2 and §5.3).
--   MetadataFields    a Metadata PDU's data field
--   FileDataFields    a File Data PDU's data field
--   FinishedFields    a Finished PDU's data field
use Rattle.std.specs.Prelude.{ℕ, Bool, List, Option}
use Rattle.cfdp_tlv.specs.Values.{RequestFields, ResponseFields}

pub record MetadataFields : Type 0 where
  pub closure : Bool
  pub checksum_type : ℕ
  pub size : ℕ
  pub source_name : List ℕ
  pub destination_name : List ℕ
  pub requests : List RequestFields

pub record FileDataFields : Type 0 where
  pub offset : ℕ
  pub octets : List ℕ

pub record FinishedFields : Type 0 where
  pub condition : ℕ
  pub incomplete : Bool
  pub file_status : ℕ
  pub responses : List ResponseFields
  pub fault : Option ℕ
