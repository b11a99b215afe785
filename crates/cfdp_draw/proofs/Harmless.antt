-- Text that is shown begins and ends nothing of XML.
--     harmless_digit                a hexadecimal digit
--     harmless_octet, harmless      what is written of an octet, and of a text
use Rattle.std.proofs.Common.{◌≡◌, refl, ℕ, ◌+◌, ◌/◌, ◌%◌, ◌<◌, ◌==◌, ◌&&◌, not, Bool, true, false, nat_lt, nat_le, if◌then◌else◌, arith, List, [], ◌∷◌, ◌++◌, codes}
use Rattle.std.specs.List.{AllByRecursion}
use Rattle.std.proofs.lemmas.Bool.{and_parts, cond_both}
use Rattle.cfdp_draw.specs.Words.{EscapedIsHarmless, IsHarmless, digit_of, escaped, escaped_octet, is_plain_in_xml}

pub harmless_digit : (value : ℕ) → value < 16 → IsHarmless (digit_of value)
harmless_digit value within =
    let by : (z : Bool) → nat_lt value 10 ≡ z → IsHarmless (if z then 48 + value else 87 + value) =
    λ z is. elim z as (λ v. nat_lt value 10 ≡ v → IsHarmless (if v then 48 + value else 87 + value)) [
      | true ↦ λ small. record { no_less = grind arith; no_greater = grind arith; no_quote = grind arith; printed = grind arith; ascii = grind arith }
      | false ↦ λ large. record { no_less = grind arith; no_greater = grind arith; no_quote = grind arith; printed = grind arith; ascii = grind arith }
    ] is in
    by (nat_lt value 10) refl

pub both : (first second : List ℕ) → AllByRecursion IsHarmless first → AllByRecursion IsHarmless second → AllByRecursion IsHarmless (first ++ second)
both [] second all rest = rest
both (octet ∷ first) second all rest = (all.0, both first second all.1 rest)

abbrev pub is_harmless : ℕ → Bool
is_harmless octet = not (octet == 60) && not (octet == 62) && not (octet == 34) && nat_le 32 octet && nat_le octet 126

abbrev pub are_harmless : List ℕ → Bool
are_harmless [] = true
are_harmless (octet ∷ rest) = is_harmless octet && are_harmless rest

pub known : (octet : ℕ) → is_harmless octet ≡ true → IsHarmless octet
known octet is = record { no_less = grind arith; no_greater = grind arith; no_quote = grind arith; printed = grind arith; ascii = grind arith }

pub all_known : (text : List ℕ) → are_harmless text ≡ true → AllByRecursion IsHarmless text
all_known [] is = tt
all_known (octet ∷ rest) is =
    (known octet (and_parts (is_harmless octet) (are_harmless rest) is).0, all_known rest (and_parts (is_harmless octet) (are_harmless rest) is).1)

pub harmless_octet : (octet : ℕ) → octet < 256 → AllByRecursion IsHarmless (escaped_octet octet)
harmless_octet octet within =
    cond_both (octet == 38) (codes "&amp;") _ (AllByRecursion IsHarmless) (λ is. all_known (codes "&amp;") refl) (λ amp.
    cond_both (octet == 60) (codes "&lt;") _ (AllByRecursion IsHarmless) (λ is. all_known (codes "&lt;") refl) (λ less.
    cond_both (octet == 62) (codes "&gt;") _ (AllByRecursion IsHarmless) (λ is. all_known (codes "&gt;") refl) (λ greater.
    cond_both (octet == 34) (codes "&quot;") _ (AllByRecursion IsHarmless) (λ is. all_known (codes "&quot;") refl) (λ quote.
    cond_both (is_plain_in_xml octet) (octet ∷ []) (37 ∷ digit_of (octet / 16) ∷ digit_of (octet % 16) ∷ []) (AllByRecursion IsHarmless)
    (λ plain. (record { no_less = grind arith; no_greater = grind arith; no_quote = grind arith; printed = grind arith; ascii = grind arith }, tt))
    (λ other. (known 37 refl, (harmless_digit (octet / 16) (omega arith), (harmless_digit (octet % 16) (omega arith), tt))))))))

pub harmless : EscapedIsHarmless
harmless [] within = tt
harmless (octet ∷ rest) within = both (escaped_octet octet) (escaped rest) (harmless_octet octet within.0) (harmless rest within.1)
