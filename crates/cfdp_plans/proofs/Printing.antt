-- What a listing prints of a path is read as the same octets.
use Rattle.std.proofs.Common.{◌≡◌, ℕ, ◌<◌, ◌*◌, ◌+◌, ◌/◌, ◌%◌, List, [], ◌∷◌, ◌++◌, flat_map, Bool, true, false, not, cond, eqb, Some, None, refl, ap, ◌∙◌, arith}
use Rattle.std.specs.List.{slice_index}
use Rattle.std.proofs.lemmas.Nat.{div-add-mod'}
use Rattle.std.proofs.lemmas.Bool.{not-true, and_parts}
use Rattle.hex.specs.Hex.{hex_digit_value, encode_with, lower_digits}
use Rattle.hex.proofs.HexLemmas.{IsDigits-lower_digits}
use Rattle.cfdp_texts.specs.Replies.{is_plain, shown_octet, two_digits}
use Rattle.cfdp_lines.specs.Words.{number_before}
use Rattle.cfdp_plans.specs.Names.{itself, octet_of_pair, name_in}
use Rattle.cfdp_plans.specs.Laws.{PrintedIsRead}

no_percent : (octet : ℕ) → is_plain octet ≡ true → eqb octet 37 ≡ false
no_percent octet plain = not-true (eqb octet 37) (and_parts _ (not (eqb octet 37)) plain).1

plain_read : (octet : ℕ) (text : List ℕ) → is_plain octet ≡ true → name_in (octet ∷ text) ≡ number_before (Some octet) (name_in text)
unfolding name_in
plain_read octet [] plain = ap (λ b. number_before (cond b (Some octet) None) (Some [])) plain
plain_read octet (next ∷ []) plain = ap (λ b. number_before (cond b (Some octet) None) (number_before (itself next) (Some []))) plain
plain_read octet (high ∷ low ∷ text) plain =
    ap (λ b. cond b (number_before (octet_of_pair (hex_digit_value high) (hex_digit_value low)) (name_in text))
    (number_before (itself octet) (name_in (high ∷ low ∷ text))))
    (no_percent octet plain)
    ∙ ap (λ b. number_before (cond b (Some octet) None) (name_in (high ∷ low ∷ text))) plain

pair_read : (octet : ℕ) (text : List ℕ) → octet < 256 → name_in (37 ∷ (two_digits octet ++ text)) ≡ number_before (Some octet) (name_in text)
unfolding name_in two_digits encode_with
pair_read octet text small =
    let high : octet / 16 < 16 = omega arith in
    let low : octet % 16 < 16 = omega arith in
    let whole : 16 * (octet / 16) + octet % 16 ≡ octet = omega (arith, div-add-mod' octet 16) in
    ap (λ value. number_before (octet_of_pair value (hex_digit_value (slice_index lower_digits (octet % 16)))) (name_in text))
    (IsDigits-lower_digits (octet / 16) high)
    ∙ ap (λ value. number_before (octet_of_pair (Some (octet / 16)) value) (name_in text)) (IsDigits-lower_digits (octet % 16) low)
    ∙ ap (λ value. number_before (Some value) (name_in text)) whole

shown_by : (octet : ℕ) (text : List ℕ) (plain : Bool) → is_plain octet ≡ plain → octet < 256
    → name_in (cond plain (octet ∷ []) (37 ∷ two_digits octet) ++ text) ≡ number_before (Some octet) (name_in text)
shown_by octet text true is small = plain_read octet text is
shown_by octet text false is small = pair_read octet text small

nothing_read : name_in [] ≡ Some []
unfolding name_in
nothing_read = refl

pub printed_read : PrintedIsRead
printed_read [] small = nothing_read
printed_read (octet ∷ octets) small =
    shown_by octet (flat_map shown_octet octets) (is_plain octet) refl small.0 ∙ ap (number_before (Some octet)) (printed_read octets small.1)
