-- What is printed of a fault.
--   tlv_fault_text  the octets of its text
use Rattle.std.specs.Prelude.{ℕ, List, codes}
use Rattle.cfdp_tlv.specs.declared.fault.TlvFault.{TlvFault}
use Rattle.cfdp_tlv.specs.declared.fault.TlvFault.TheVariants.{Truncated, BadAction, Trailing, TooLong, BadStatus, Memory}

abbrev pub tlv_fault_text : TlvFault → List ℕ
tlv_fault_text Truncated = codes "the field is cut"
tlv_fault_text BadAction = codes "no action has this code"
tlv_fault_text Trailing = codes "octets come after the value"
tlv_fault_text TooLong = codes "the value is longer than 255 octets"
tlv_fault_text BadStatus = codes "no status has this octet"
tlv_fault_text Memory = codes "out of memory"
