-- Words decoded by a table: it has the value of each digit, and pairs of digits make the octets.
use Rattle.std.proofs.Common.{◌≡◌, ◌≢◌, ◌∙◌, ℕ, zero, suc, ◌+◌, ◌*◌, ◌/◌, ◌%◌, ◌<◌, Bool, true, ◌&&◌, eqb, List, [], ◌∷◌, length, get_or, set, Option, Some, None, Ok, refl, sym, ap, subst, arith, inl, inr, is_some, below_more, get_or-set_other, get_or-set_same}
use Rattle.std.specs.Prelude.{IsOk}
use Rattle.std.specs.Int.Bits.{bit_or}
use Rattle.std.proofs.lemmas.Bool.{eqb-true, cases_lt, and_parts}
use Rattle.std.proofs.lemmas.Nat.{or_lt, le_or_l, le_or_r}
use Rattle.std.proofs.lemmas.List.Elements.{All-get_or}
use Rattle.hex.specs.Hex.{decode_of, decode_pairs, digit_or_error, hex_digit_value, is_hex_digit, pair_value}
use Rattle.hex.proofs.HexLemmas.{decode_of-ok, decode_of-even}
use Rattle.hex.proofs.Pairs.{decode_pairs-ok_pair, cons_byte}
use Rattle.cfdp_lines.specs.code.Digits.{ArePairs, value_by, value_of}
use Rattle.cfdp_lines.specs.code.Hexadecimal.{octets_or_none}
use Rattle.cfdp_lines.specs.declared.digits.TheConstants.{VALUES}
use Rattle.cfdp_lines.proofs.Decoding.{ok_octets}

-- ---- the table

-- each value of the list is that of its index, counted from n
are_values : ℕ → List ℕ → Bool
are_values n [] = true
are_values n (v ∷ vs) = eqb v (value_of n) && are_values (suc n) vs

value_in : (n i : ℕ) (vs : List ℕ) → are_values n vs ≡ true → i < length vs → get_or vs i 0 ≡ value_of (n + i)
unfolding are_values
value_in n i [] e h = absurd (omega arith)
value_in n zero (v ∷ vs) e h =
    let same : n ≡ n + 0 = omega arith in
    eqb-true v (value_of n) (and_parts (eqb v (value_of n)) (are_values (suc n) vs) e).0 ∙ ap value_of same
value_in n (suc i) (v ∷ vs) e h =
    let next : suc n + i ≡ n + suc i = omega arith in
    value_in (suc n) i vs (and_parts (eqb v (value_of n)) (are_values (suc n) vs) e).1 (omega arith) ∙ ap value_of next

all_are_values : are_values 0 VALUES ≡ true
unfolding are_values
all_are_values = refl

pub value_of-is : (octet : ℕ) → octet < 256 → get_or VALUES octet 0 ≡ value_of octet
value_of-is octet h =
    let same : 0 + octet ≡ octet = omega arith in
    value_in 0 octet VALUES all_are_values h ∙ ap value_of same

-- ---- one pair more

-- the octet of pair k
abbrev pub octet_at : List ℕ → ℕ → ℕ
octet_at word k = value_of (get_or word (2 * k) 0) * 16 + value_of (get_or word (2 * k + 1) 0)

-- a fact of each octet before a pair, and of both of its own
of_pair : (P : ℕ → Type 0) (i k : ℕ) → k < 2 * (i + 1) → (k < 2 * i → P k) → P (2 * i) → P (2 * i + 1) → P k
of_pair P i k h below high low = elim (cases_lt k (2 * i)) [
  | inl before ↦ below before
  | inr after ↦ elim (cases_lt k (2 * i + 1)) [
    | inl first ↦ subst P (omega arith) high
    | inr second ↦ subst P (omega arith) low
  ]
]

-- two values make an octet
pub of_values : (word : List ℕ) (k high low : ℕ) → high < 16 → low < 16
    → high ≡ value_of (get_or word (2 * k) 0) → low ≡ value_of (get_or word (2 * k + 1) 0) → (high * 16 % 256 + low) % 256 ≡ octet_at word k
of_values word k high low h l high-is low-is = omega (arith, h, l, high-is, low-is)

pub pair_more : (word room : List ℕ) (i seen high low : ℕ) → i < length room → ArePairs word room i (seen < 16)
    → high ≡ value_of (get_or word (2 * i) 0) → low ≡ value_of (get_or word (2 * i + 1) 0)
    → ArePairs word (set room i ((high * 16 % 256 + low) % 256)) (i + 1) (bit_or seen (bit_or high low) < 16)
pair_more word room i seen high low within pairs high-is low-is =
    let pair = bit_or high low in
    let octet = (high * 16 % 256 + low) % 256 in
    let seen-le = le_or_l seen pair in
    let pair-le = le_or_r seen pair in
    let high-le = le_or_l high low in
    let low-le = le_or_r high low in
    let P : ℕ → Type 0 = λ n. n < 16 in
    record {
      spelled = λ few. below_more (λ k. get_or (set room i octet) k 0 ≡ octet_at word k) i
          (λ k h. let ne : k ≢ i = omega arith in get_or-set_other room i k octet 0 ne ∙ pairs.spelled (omega arith) k h)
          (get_or-set_same room i octet 0 within ∙ of_values word i high low (omega arith) (omega arith) high-is low-is);
      tested = λ few k h. of_pair (λ n. value_of (get_or word n 0) < 16) i k h
          (pairs.tested (omega arith) k) (subst P high-is (omega arith)) (subst P low-is (omega arith));
      good = λ all. or_lt 4 seen pair (pairs.good (λ k h. all k (omega arith)))
          (or_lt 4 high low (subst P (sym high-is) (all (2 * i) (omega arith))) (subst P (sym low-is) (all (2 * i + 1) (omega arith))));
    }

-- ---- all pairs

some_value : (c i : ℕ) (o : Option ℕ) → value_by o < 16 → digit_or_error c i o ≡ Ok (value_by o)
some_value c i (Some value) h = refl
some_value c i None h = absurd (omega arith)

is_digit : (o : Option ℕ) → is_some o ≡ true → ((v : ℕ) → o ≡ Some v → v < 16) → value_by o < 16
is_digit (Some value) e small = small value refl
is_digit None e small = absurd cc

digit_value-small : (c v : ℕ) → hex_digit_value c ≡ Some v → v < 16
digit_value-small c v h = grind (arith)

-- pairs of digits are decoded to the octets that they spell
of_digits : (at : ℕ) (word out : List ℕ) → length word ≡ 2 * length out
    → ((k : ℕ) → k < length out → get_or out k 0 ≡ octet_at word k)
    → ((k : ℕ) → k < length word → value_of (get_or word k 0) < 16)
    → decode_pairs at word ≡ Ok out
unfolding decode_pairs
of_digits at [] [] len spelled small = refl
of_digits at [] (o ∷ os) len spelled small = absurd (omega arith)
of_digits at (a ∷ []) out len spelled small = absurd (omega arith)
of_digits at (a ∷ b ∷ rest) [] len spelled small = absurd (omega arith)
of_digits at (a ∷ b ∷ rest) (o ∷ os) len spelled small =
    let word : List ℕ = a ∷ b ∷ rest in
    let a-lt : value_of a < 16 = small 0 (omega arith) in
    let b-lt : value_of b < 16 = small 1 (omega arith) in
    let a-is = some_value a at (hex_digit_value a) a-lt in
    let b-is = some_value b (at + 1) (hex_digit_value b) b-lt in
    let pair : pair_value a b at ≡ Ok (value_of a * 16 + value_of b) = rw (a-is, b-is) refl in
    let o-is : value_of a * 16 + value_of b ≡ o = sym (spelled 0 (omega arith)) in
    let two : (k : ℕ) → 2 * suc k ≡ suc (suc (2 * k)) = λ k. omega arith in
    let two_more : (k : ℕ) → 2 * suc k + 1 ≡ suc (suc (2 * k + 1)) = λ k. omega arith in
    let moved : (k : ℕ) → octet_at word (suc k) ≡ octet_at rest k = λ k.
    ap (λ (n : ℕ). value_of (get_or word n 0) * 16 + value_of (get_or word (2 * suc k + 1) 0)) (two k)
    ∙ ap (λ (n : ℕ). value_of (get_or rest (2 * k) 0) * 16 + value_of (get_or word n 0)) (two_more k) in
    let ih = of_digits (at + 2) rest os (omega arith) (λ k h. spelled (suc k) (omega arith) ∙ moved k) (λ k h. small (suc (suc k)) (omega arith)) in
    decode_pairs-ok_pair at a b (value_of a * 16 + value_of b) rest pair
    ∙ ap (cons_byte (value_of a * 16 + value_of b)) ih
    ∙ ap (λ (v : ℕ). Ok (v ∷ os)) o-is

module _ (word out : List ℕ) (n : ℕ) (digits : Type 0) (even : length word % 2 ≡ 0) (half : n ≡ length word / 2) (len : length out ≡ n)
    (pairs : ArePairs word out n digits) where
  pub word_of_digits : digits → decode_of word ≡ Ok out
  word_of_digits few =
      decode_of-even word even
      ∙ of_digits 0 word out (omega arith) (λ k h. pairs.spelled few k (omega arith)) (λ k h. pairs.tested few k (omega arith))

  pub word_decoded : digits → out ≡ octets_or_none (decode_of word)
  word_decoded few = sym (ap octets_or_none (word_of_digits few))

  pub word_good : digits → IsOk (decode_of word)
  word_good few = rw (word_of_digits few) refl

  pub word_is_digits : IsOk (decode_of word) → digits
  word_is_digits ok =
      let all = (decode_of-ok word (octets_or_none (decode_of word)) (ok_octets (decode_of word) ok)).1 in
      pairs.good (λ k h.
      let c = get_or word k 0 in
      is_digit (hex_digit_value c) (All-get_or (λ (x : ℕ). is_hex_digit x ≡ true) word k 0 (omega arith) all) (digit_value-small c))
