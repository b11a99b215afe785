-- What only the proofs of the code need of TLV fields.
--   field_if_whole read  a field that was read, as its type and its value; None where it is cut
use Rattle.std.specs.Prelude.{Option, Some, None, Result, Ok, Err}
use Rattle.cfdp_tlv.specs.declared.field.Tlv.{Tlv}
use Rattle.cfdp_tlv.specs.declared.fault.TlvFault.{TlvFault}
use Rattle.cfdp_pdus.specs.Grammar.{Field}

abbrev pub field_if_whole : Result Tlv TlvFault → Option Field
field_if_whole (Ok field) = Some (field.kind, field.value.now)
field_if_whole (Err fault) = None
