-- An LV or TLV field that is read is spelled so, and one that is spelled so is read.
use Rattle.std.proofs.Common.{◌≡◌, ℕ, ◌≤◌, List, [], ◌∷◌, ◌++◌, length, take, drop, false, ltb, Ok, refl, sym, ap, subst, arith}
use Rattle.std.proofs.lemmas.Bool.{ltb-false, le-ltb}
use Rattle.std.proofs.lemmas.List.{take_at, drop_at, take-append-drop, length-append, length-take}
use Rattle.cfdp_tlv.specs.declared.fault.TlvFault.TheVariants.{Truncated}
use Rattle.cfdp_tlv.specs.Field.{lv, tlv, lv_at, tlv_at}
use Rattle.cfdp_tlv.proofs.Steps.{bind_ok, guard_ok, ok_is}

pub lv_takes : (octets value rest : List ℕ) → lv_at octets ≡ Ok (value, rest) → octets ≡ lv value ++ rest
unfolding lv_at
lv_takes [] value rest e = absurd cc
lv_takes (len ∷ octets) value rest e =
    let g = guard_ok (ltb (length octets) len) Truncated (take len octets, drop len octets) (value, rest) e in
    let long : len ≤ length octets = ltb-false _ _ g.0 in
    let value-is : take len octets ≡ value = ap (λ (p : List ℕ × List ℕ). p.0) g.1 in
    let rest-is : drop len octets ≡ rest = ap (λ (p : List ℕ × List ℕ). p.1) g.1 in
    let len-is : length (take len octets) ≡ len = omega (arith, length-take len octets) in
    let parts : octets ≡ take len octets ++ drop len octets = sym (take-append-drop len octets) in
    let front : len ∷ octets ≡ length (take len octets) ∷ (take len octets ++ drop len octets) = cc in
    subst (λ (p : List ℕ × List ℕ). len ∷ octets ≡ lv p.0 ++ p.1) g.1 front

pub lv_again : (value rest : List ℕ) → lv_at (lv value ++ rest) ≡ Ok (value, rest)
unfolding lv_at
lv_again value rest =
    let long : ltb (length (value ++ rest)) (length value) ≡ false = le-ltb _ _ (omega (arith, length-append value rest)) in
    rw (long, take_at value rest (length value) refl, drop_at value rest (length value) refl) refl

pub tlv_takes : (octets : List ℕ) (kind : ℕ) (value rest : List ℕ) → tlv_at octets ≡ Ok (kind, value, rest) → octets ≡ tlv kind value ++ rest
unfolding tlv_at
tlv_takes [] kind value rest e = absurd cc
tlv_takes (octet ∷ octets) kind value rest e =
    let a = bind_ok (lv_at octets) (λ field. Ok (octet, field.0, field.1)) (kind, value, rest) e in
    let parts : octets ≡ lv a.0.0 ++ a.0.1 = lv_takes octets a.0.0 a.0.1 a.1 in
    let made : ℕ × List ℕ × List ℕ = (octet, a.0.0, a.0.1) in
    subst (λ (p : ℕ × List ℕ × List ℕ). octet ∷ octets ≡ tlv p.0 p.1 ++ p.2) (ok_is made (kind, value, rest) a.2) (ap (λ (t : List ℕ). octet ∷ t) parts)

pub tlv_again : (kind : ℕ) (value rest : List ℕ) → tlv_at (tlv kind value ++ rest) ≡ Ok (kind, value, rest)
unfolding tlv_at
tlv_again kind value rest = rw (lv_again value rest) refl
