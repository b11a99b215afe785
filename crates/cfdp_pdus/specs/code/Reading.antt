-- What only the proofs of the code need of `Reading`.
--   only_judged read   the fault of it, and of a value only that it was read
use Rattle.std.specs.Prelude.{Result, Ok}
use Rattle.cfdp_tlv.specs.Reading.{◌>>=◌}
use Rattle.cfdp_pdus.specs.declared.fault.PduFault.{PduFault}

abbrev pub only_judged : {A : Type 0} → Result A PduFault → Result (Unit {0}) PduFault
only_judged read = read >>= λ x. Ok tt
