-- The TLV fields of octets, one step at a time.
use Rattle.std.proofs.Common.{◌≡◌, Option, ℕ, true, false, eqb, zero, suc, ◌+◌, ◌≤◌, ◌<◌, List, [], ◌∷◌, ◌++◌, length, Some, None, Result, Ok, Err, refl, sym, ap, ◌∙◌, subst, arith}
use Rattle.std.proofs.lemmas.List.{length-append, nil_from_length}
use Rattle.std.proofs.lemmas.Bool.{eqb-true}
use Rattle.cfdp_tlv.specs.Field.{tlv, tlv_at}
use Rattle.cfdp_tlv.specs.declared.fault.TlvFault.{TlvFault}
use Rattle.cfdp_tlv.proofs.Fields.{tlv_takes}
use Rattle.cfdp_pdus.specs.Grammar.{Field}
use Rattle.cfdp_pdus.specs.First.{front_field, some_fields_at, fields_at}

-- what is after a field is shorter
pub shorter : (octets : List ℕ) (field : ℕ × List ℕ × List ℕ) → tlv_at octets ≡ Ok field → length field.2 + 2 ≤ length octets
shorter octets field e =
    let parts : octets ≡ tlv field.0 field.1 ++ field.2 = tlv_takes octets field.0 field.1 field.2 e in
    omega (arith, ap length parts, length-append field.1 field.2)

front_same : (read : Result (ℕ × List ℕ × List ℕ) TlvFault) (f g : List ℕ → List (Option Field)) →
    ((field : ℕ × List ℕ × List ℕ) → read ≡ Ok field → f field.2 ≡ g field.2) → front_field read f ≡ front_field read g
front_same (Ok field) f g same = ap (λ (fields : List (Option Field)). Some (field.0, field.1) ∷ fields) (same field refl)
front_same (Err fault) f g same = refl

-- the count is of no account where it is large enough
enough : (n m : ℕ) (octets : List ℕ) → length octets ≤ n → length octets ≤ m → some_fields_at n octets ≡ some_fields_at m octets
unfolding some_fields_at
enough zero zero octets p q = refl
enough zero (suc m) [] p q = refl
enough zero (suc m) (octet ∷ octets) p q = absurd (omega arith)
enough (suc n) zero [] p q = refl
enough (suc n) zero (octet ∷ octets) p q = absurd (omega arith)
enough (suc n) (suc m) [] p q = refl
enough (suc n) (suc m) (octet ∷ octets) p q =
    front_same (tlv_at (octet ∷ octets)) (some_fields_at n) (some_fields_at m)
    (λ field e. enough n m field.2 (omega (arith, shorter (octet ∷ octets) field e)) (omega (arith, shorter (octet ∷ octets) field e)))

pub fields_at-step : (octets : List ℕ) (kind : ℕ) (value rest : List ℕ) → tlv_at octets ≡ Ok (kind, value, rest) → fields_at octets
    ≡ Some (kind, value) ∷ fields_at rest
unfolding fields_at some_fields_at tlv_at
fields_at-step [] kind value rest e = absurd cc
fields_at-step (octet ∷ octets) kind value rest e =
    let small : length rest ≤ length octets = omega (arith, shorter (octet ∷ octets) (kind, value, rest) e) in
    let one : fields_at (octet ∷ octets) ≡ Some (kind, value) ∷ some_fields_at (length octets) rest =
    ap (λ r. front_field r (some_fields_at (length octets))) e in
    one ∙ ap (λ (fields : List (Option Field)). Some (kind, value) ∷ fields) (enough (length octets) (length rest) rest small (omega arith))

pub fields_at-cut : (octets : List ℕ) (fault : TlvFault) → (octets ≡ [] → ⊥) → tlv_at octets ≡ Err fault → fields_at octets ≡ None ∷ []
unfolding fields_at some_fields_at
fields_at-cut [] fault some e = absurd (some refl)
fields_at-cut (octet ∷ octets) fault some e = ap (λ r. front_field r (some_fields_at (length octets))) e

pub fields_at-nil : fields_at [] ≡ []
unfolding fields_at some_fields_at
fields_at-nil = refl

-- what tests of the code mean
pub not_nil : (octets : List ℕ) → false ≡ eqb (length octets) 0 → octets ≡ [] → ⊥
not_nil [] e nil = cc
not_nil (octet ∷ octets) e nil = cc

pub nil_is : (octets : List ℕ) → true ≡ eqb (length octets) 0 → octets ≡ []
nil_is octets e = nil_from_length octets (eqb-true _ _ (sym e))

-- an item less is left
pub fewer : {A : Type 0} (all rest : List A) (x : A) → all ≡ x ∷ rest → length rest < length all
fewer {A = A} all rest x e = subst (λ (xs : List A). length rest < length xs) (sym e) (omega arith)

-- there are no more fields than octets
front_len : (read : Result (ℕ × List ℕ × List ℕ) TlvFault) (next : List ℕ → List (Option Field)) (n : ℕ) →
    ((octets : List ℕ) → length (next octets) ≤ n) → length (front_field read next) ≤ n + 1
front_len (Ok field) next n few = omega (arith, few field.2)
front_len (Err fault) next n few = omega arith

some_fields_len : (n : ℕ) (octets : List ℕ) → length (some_fields_at n octets) ≤ n
unfolding some_fields_at
some_fields_len zero octets = omega arith
some_fields_len (suc n) [] = omega arith
some_fields_len (suc n) (octet ∷ octets) = omega (arith, front_len (tlv_at (octet ∷ octets)) (some_fields_at n) n (some_fields_len n))

pub fields_len : (octets : List ℕ) → length (fields_at octets) ≤ length octets
unfolding fields_at
fields_len octets = some_fields_len (length octets) octets
