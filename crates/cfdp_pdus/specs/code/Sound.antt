-- What only the proofs of the code need of `Sound`.
--   GivesLean read     reading gives such a PDU
use Rattle.std.specs.Prelude.{Result, Ok, Err}
use Rattle.cfdp_pdus.specs.declared.pdu.Pdu.{Pdu}
use Rattle.cfdp_pdus.specs.declared.fault.PduFault.{PduFault}
use Rattle.cfdp_pdus.specs.Sound.{IsLean}

abbrev pub GivesLean : Result Pdu PduFault → Type 0
GivesLean (Ok pdu) = IsLean pdu
GivesLean (Err fault) = ⊥
