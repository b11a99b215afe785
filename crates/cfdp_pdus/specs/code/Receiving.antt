-- What only the proofs of the code need of `Receiving`.
--   ReceivesLean read        reading gives such a PDU
use Rattle.std.specs.Prelude.{Result, Ok, Err}
use Rattle.cfdp_pdus.specs.declared.pdu.Pdu.{Pdu}
use Rattle.cfdp_pdus.specs.declared.fault.PduFault.{PduFault}
use Rattle.cfdp_pdus.specs.Receiving.{IsLeanToReceive}

abbrev pub ReceivesLean : Result Pdu PduFault → Type 0
ReceivesLean (Ok pdu) = IsLeanToReceive pdu
ReceivesLean (Err fault) = ⊥
