-- What is printed of a fault.
--   nak_text_of      the octets of a fault in reading a NAK PDU
use Rattle.std.specs.Prelude.{ℕ, List, ◌++◌, codes, decimal}
use Rattle.cfdp_pdus.specs.Texts.{pdu_fault_text}
use Rattle.cfdp_directives.specs.declared.nak.NakFault.{NakFault}
use Rattle.cfdp_directives.specs.declared.nak.NakFault.TheVariants.{Pdu, TooMany}

abbrev pub nak_text_of : NakFault → List ℕ
nak_text_of (Pdu fault) = pdu_fault_text fault
nak_text_of (TooMany count) = codes "the list is too short for " ++ (decimal count ++ codes " requests")
