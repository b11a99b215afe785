-- The line of a PDU is read as its octets.
use Rattle.std.proofs.Common.{◌≡◌, ℕ, ◌+◌, ◌*◌, ◌/◌, ◌%◌, ◌<◌, zero, suc, List, [], ◌∷◌, ◌++◌, length, get_or, Bool, true, false, eqb, Option, Some, None, Ok, All, refl, ap, sym, ◌∙◌, arith, codes}
use Rattle.std.specs.List.{AllByRecursion, slice_index}
use Rattle.std.proofs.lemmas.Bool.{eqb-true}
use Rattle.std.proofs.lemmas.Option.{none-some}
use Rattle.hex.specs.Hex.{IsBytes, decode_of, hex_digit_value, encode_lower, encode_with, lower_digits}
use Rattle.hex.proofs.HexLemmas.{IsDigits-lower_digits, decode_of-encode_lower}
use Rattle.cfdp_uploads.proofs.Found.{each_at}
use Rattle.cfdp_lines.specs.Hexadecimal.{is_space}
use Rattle.cfdp_lines.specs.Words.{words_of}
use Rattle.cfdp_plans.specs.Laws.{PduLineIsRead}
use Rattle.cfdp_lines.proofs.Wording.{words_of-space, words_of-first, words_of-last}

-- a digit is no space
digit_by : (digit value : ℕ) (b : Bool) → is_space digit ≡ b → hex_digit_value digit ≡ Some value → is_space digit ≡ false
digit_by digit value true is means =
    let none : hex_digit_value digit ≡ None = ap hex_digit_value (eqb-true digit 32 is) in
    absurd (none-some value (sym none ∙ means))
digit_by digit value false is means = is

digit_apart : (n : ℕ) → n < 16 → is_space (slice_index lower_digits n) ≡ false
digit_apart n lt = digit_by (slice_index lower_digits n) n (is_space (slice_index lower_digits n)) refl (IsDigits-lower_digits n lt)

digits_apart : (octets : List ℕ) → AllByRecursion (λ octet. octet < 256) octets → AllByRecursion (λ digit. is_space digit ≡ false) (encode_lower octets)
unfolding encode_with
digits_apart [] small = tt
digits_apart (octet ∷ octets) small =
    let lt : octet < 256 = small.0 in
    (digit_apart (octet / 16) (omega arith), (digit_apart (octet % 16) (omega arith), digits_apart octets small.1))

bytes_of : (octets : List ℕ) → AllByRecursion (λ octet. octet < 256) octets → IsBytes octets
bytes_of [] small i = omega arith
bytes_of (octet ∷ octets) small zero = small.0
bytes_of (octet ∷ octets) small (suc i) = bytes_of octets small.1 i

some_digits : (octets : List ℕ) → 0 < length octets → 0 < length (encode_lower octets)
unfolding encode_with
some_digits [] some = absurd (omega arith)
some_digits (octet ∷ octets) some = omega arith

pub pdu_line_read : PduLineIsRead
pdu_line_read octets some small =
    let hex : List ℕ = encode_lower octets in
    let apart : All (λ digit. is_space digit ≡ false) hex = λ k d lt. each_at (λ digit. is_space digit ≡ false) hex k d (digits_apart octets small) lt in
    let word : All (λ octet. is_space octet ≡ false) (codes "pdu") =
    λ k d lt. each_at (λ octet. is_space octet ≡ false) (codes "pdu") k d (refl, (refl, (refl, tt))) lt in
    record {
      words = words_of-first (codes "pdu") hex word (omega arith)
          ∙ ap (λ (words : List (List ℕ)). codes "pdu" ∷ words) (words_of-space hex ∙ words_of-last hex apart (some_digits octets some));
      digits = decode_of-encode_lower octets (bytes_of octets small);
    }
