-- The TLV fields that are read are those that are spelled.
use Rattle.std.proofs.Common.{◌≡◌, ℕ, zero, suc, ◌≤◌, List, [], ◌∷◌, ◌++◌, length, Option, Some, Result, Ok, Err, refl, ap, ◌∙◌, arith}
use Rattle.cfdp_tlv.specs.Field.{tlv, tlv_at}
use Rattle.cfdp_tlv.specs.declared.fault.TlvFault.{TlvFault}
use Rattle.cfdp_tlv.proofs.Fields.{tlv_takes, tlv_again}
use Rattle.cfdp_pdus.specs.Grammar.{Field, field_octets}
use Rattle.cfdp_pdus.specs.First.{front_field, some_fields_at, fields_at}
use Rattle.cfdp_pdus.proofs.Splits.{shorter, fields_at-step, fields_at-nil}

abbrev pub all_of : List Field → List (Option Field)
all_of [] = []
all_of (field ∷ fields) = Some field ∷ all_of fields

-- what is known of the fields after a first one that is whole
record Front (read : Result (ℕ × List ℕ × List ℕ) TlvFault) (next : List ℕ → List (Option Field)) (field : Field) (fields : List Field) : Type 0 where
  rest : List ℕ
  here : read ≡ Ok (field.0, field.1, rest)
  following : next rest ≡ all_of fields

front_is : (read : Result (ℕ × List ℕ × List ℕ) TlvFault) (next : List ℕ → List (Option Field)) (field : Field) (fields : List Field) → front_field read next
    ≡ Some field ∷ all_of fields → Front read next field fields
front_is (Ok found) next field fields e =
    let field-is : (found.0, found.1) ≡ field = cc in
    let following-is : next found.2 ≡ all_of fields = cc in
    record { rest = found.2; here = ap (λ (f : Field). Ok (f.0, f.1, found.2)) field-is; following = following-is }
front_is (Err fault) next field fields e = absurd cc

never : (read : Result (ℕ × List ℕ × List ℕ) TlvFault) (next : List ℕ → List (Option Field)) → front_field read next ≡ [] → ⊥
never (Ok found) next e = cc
never (Err fault) next e = cc

some_fields_take : (count : ℕ) (octets : List ℕ) (fields : List Field) → length octets ≤ count → some_fields_at count octets ≡ all_of fields → octets
    ≡ field_octets fields
unfolding some_fields_at
some_fields_take zero [] [] small e = refl
some_fields_take zero [] (field ∷ fields) small e = absurd cc
some_fields_take zero (octet ∷ octets) fields small e = absurd (omega arith)
some_fields_take (suc count) [] [] small e = refl
some_fields_take (suc count) [] (field ∷ fields) small e = absurd cc
some_fields_take (suc count) (octet ∷ octets) [] small e = absurd (never (tlv_at (octet ∷ octets)) (some_fields_at count) e)
some_fields_take (suc count) (octet ∷ octets) (field ∷ fields) small e =
    let front = front_is (tlv_at (octet ∷ octets)) (some_fields_at count) field fields e in
    let less = shorter (octet ∷ octets) (field.0, field.1, front.rest) front.here in
    let following : front.rest ≡ field_octets fields = some_fields_take count front.rest fields (omega (arith, less)) front.following in
    tlv_takes (octet ∷ octets) field.0 field.1 front.rest front.here ∙ ap (λ (t : List ℕ). tlv field.0 field.1 ++ t) following

pub fields_take : (octets : List ℕ) (fields : List Field) → fields_at octets ≡ all_of fields → octets ≡ field_octets fields
unfolding fields_at
fields_take octets fields e = some_fields_take (length octets) octets fields (omega arith) e

pub fields_again : (fields : List Field) → fields_at (field_octets fields) ≡ all_of fields
fields_again [] = fields_at-nil
fields_again (field ∷ fields) =
    fields_at-step (tlv field.0 field.1 ++ field_octets fields) field.0 field.1 (field_octets fields) (tlv_again field.0 field.1 (field_octets fields))
    ∙ ap (λ (rest : List (Option Field)). Some field ∷ rest) (fields_again fields)
