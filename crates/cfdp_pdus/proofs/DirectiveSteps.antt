-- A data field that is no file data's gives no File Data PDU.
use Rattle.std.proofs.Common.{◌≡◌, ℕ, List, [], ◌∷◌, Bool, false, Result, Ok, Err}
use Rattle.std.specs.Prelude.{◌==◌, if◌then◌else◌}
use Rattle.cfdp_status.proofs.Choices.{either_way}
use Rattle.cfdp_tlv.specs.Reading.{◌>>=◌}
use Rattle.cfdp_pdus.specs.declared.header.Header.{Header}
use Rattle.cfdp_pdus.specs.declared.eof.Eof.{Eof}
use Rattle.cfdp_pdus.specs.declared.pdu.Pdu.{Pdu}
use Rattle.cfdp_pdus.specs.declared.pdu.Pdu.TheVariants as pdus
use Rattle.cfdp_pdus.specs.declared.fault.PduFault.{PduFault}
use Rattle.cfdp_pdus.specs.Values.{MetadataFields, FinishedFields}
use Rattle.cfdp_pdus.specs.First.{Start, directive_at, field_at}
use Rattle.cfdp_pdus.specs.Sound.{IsNoFileData}

record Other (read : Result Pdu PduFault) : Type 0 where
  pub is_other : IsNoFileData read

chosen : (b : Bool) {x y : Result Pdu PduFault} → Other x → Other y → Other (if b then x else y)
chosen b left right = either_way Other b _ _ left right

metadata : (header : Header) (read : Result MetadataFields PduFault) → Other (read >>= λ m. Ok (pdus.Metadata header m))
metadata header (Ok m) = record { is_other = tt }
metadata header (Err fault) = record { is_other = tt }

eof : (header : Header) (read : Result Eof PduFault) → Other (read >>= λ e. Ok (pdus.Eof header e))
eof header (Ok e) = record { is_other = tt }
eof header (Err fault) = record { is_other = tt }

finished : (header : Header) (read : Result FinishedFields PduFault) → Other (read >>= λ f. Ok (pdus.Finished header f))
finished header (Ok f) = record { is_other = tt }
finished header (Err fault) = record { is_other = tt }

not_ours : {header : Header} {code : ℕ} → Other (Ok (pdus.NotOurs header code))
not_ours = record { is_other = tt }

fault : {fault : PduFault} → Other (Err fault)
fault = record { is_other = tt }

directive : (header : Header) (octets : List ℕ) → Other (directive_at header octets)
unfolding directive_at
directive header [] = fault
directive header (code ∷ octets) =
    chosen (code == 7) (metadata header _) (chosen (code == 4) (eof header _) (chosen (code == 5) (finished header _) (chosen (code == 6) not_ours
    (chosen (code == 8) not_ours (chosen (code == 9) not_ours (chosen (code == 12) not_ours fault))))))

pub field_is_no_file_data : (start : Start) → start.file_data ≡ false → IsNoFileData (field_at start)
unfolding field_at
field_is_no_file_data start other = rw other (directive start.header start.field).is_other
