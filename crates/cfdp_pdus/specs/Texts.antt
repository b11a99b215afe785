-- What is printed of a fault.
--   pdu_fault_text   the octets of a reader's fault
--   write_text_of    the octets of a writer's fault
use Rattle.std.specs.Prelude.{ℕ, List, codes}
use Rattle.cfdp_pdus.specs.declared.fault.PduFault.{PduFault}
use Rattle.cfdp_pdus.specs.declared.fault.PduFault.TheVariants.{Truncated, BadVersion, CrcNotSupported, LengthMismatch, BadDirective, BadTlv, RequestTooLong, Memory}
use Rattle.cfdp_pdus.specs.declared.fault.WriteFault.{WriteFault}
use Rattle.cfdp_pdus.specs.declared.fault.WriteFault.TheVariants as writing

abbrev pub pdu_fault_text : PduFault → List ℕ
pdu_fault_text Truncated = codes "the PDU is cut"
pdu_fault_text BadVersion = codes "the version is not 001"
pdu_fault_text CrcNotSupported = codes "the PDU has a CRC"
pdu_fault_text LengthMismatch = codes "the data field has another length"
pdu_fault_text BadDirective = codes "no directive has this code"
pdu_fault_text BadTlv = codes "a TLV field is cut or wrong"
pdu_fault_text RequestTooLong = codes "a filestore request is too long"
pdu_fault_text Memory = codes "out of memory"

abbrev pub write_text_of : WriteFault → List ℕ
write_text_of writing.TooLong = codes "a length does not fit its field"
write_text_of writing.Memory = codes "out of memory"
