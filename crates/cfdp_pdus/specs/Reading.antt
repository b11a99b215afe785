-- Further words of reading, beside those of `cfdp_tlv`.
--   mend fault read    what a field's reader reads, each fault of it being this fault
use Rattle.std.specs.Prelude.{Result, Ok, Err}
use Rattle.cfdp_tlv.specs.declared.fault.TlvFault.{TlvFault}
use Rattle.cfdp_pdus.specs.declared.fault.PduFault.{PduFault}

abbrev pub mend : {A : Type 0} → PduFault → Result A TlvFault → Result A PduFault
mend fault (Ok x) = Ok x
mend fault (Err other) = Err fault
