-- What is known of a TLV field that an iterator of fields returned.
use Rattle.std.proofs.Common.{◌≡◌, List, ◌∷◌, true, false, Option, Some, None, Result, Ok, Err, refl}
use Rattle.std.specs.Prelude.{IsOk}
use Rattle.std.specs.Result.{is_err}
use Rattle.cfdp_tlv.specs.declared.field.Tlv.{Tlv}
use Rattle.cfdp_tlv.specs.declared.fault.TlvFault.{TlvFault}
use Rattle.cfdp_pdus.specs.Grammar.{Field}
use Rattle.cfdp_pdus.specs.code.Fields.{field_if_whole}

pub whole_ok : (read : Result Tlv TlvFault) (fields after : List (Option Field)) → fields ≡ field_if_whole read ∷ after → (fields ≡ None ∷ after → ⊥)
    → IsOk read
whole_ok (Ok field) fields after is never = refl
whole_ok (Err fault) fields after is never = absurd (never is)

pub whole_of_err : (read : Result Tlv TlvFault) → true ≡ is_err read → field_if_whole read ≡ None
whole_of_err (Ok field) e = absurd cc
whole_of_err (Err fault) e = refl

pub whole_of_ok : (read : Result Tlv TlvFault) → false ≡ is_err read → (field : Field) × (field_if_whole read ≡ Some field)
whole_of_ok (Ok field) e = ((field.kind, field.value.now), refl)
whole_of_ok (Err fault) e = absurd cc
