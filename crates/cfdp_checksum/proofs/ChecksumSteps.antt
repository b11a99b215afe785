-- The checksum word by word, and piece by piece.
use Rattle.std.proofs.Common.{◌≡◌, ℕ, zero, suc, ◌+◌, ◌-◌, ◌*◌, ◌/◌, ◌%◌, ◌^◌, ◌<◌, ◌≤◌, min, List, [], ◌∷◌, ◌++◌, length, take, drop, replicate, refl, sym, ap, ◌∙◌, inl, inr, arith, length-append}
use Rattle.std.proofs.lemmas.Bool.{cases_lt}
use Rattle.std.proofs.lemmas.List.{drop_all, length-take-le}
use Rattle.byteorder.specs.Endian.{big_number}
use Rattle.cfdp_checksum.specs.Checksum.{octet_weight, weighed_from, checksum_at, checksum}
use Rattle.cfdp_checksum.specs.Laws.{PiecesAddUp, OffsetsAddUp, OnlyWordOffsetsCount, ZerosAddNothing, PartsAreReplaced}

-- the position in a word says all
weight-offset : (i j : ℕ) → i % 4 ≡ j % 4 → octet_weight i ≡ octet_weight j
weight-offset i j same = ap (λ (k : ℕ). 256 ^ (3 - k)) same

weighed-offset : (i j : ℕ) (octets : List ℕ) → i % 4 ≡ j % 4 → weighed_from i octets ≡ weighed_from j octets
unfolding weighed_from
weighed-offset i j [] same = refl
weighed-offset i j (octet ∷ octets) same =
    let next : (i + 1) % 4 ≡ (j + 1) % 4 = omega (arith, same) in
    (λ k. octet * weight-offset i j same k + weighed-offset (i + 1) (j + 1) octets next k)

pub only-word-offsets-count : OnlyWordOffsetsCount
only-word-offsets-count i j octets same = ap (λ n. n % 2 ^ 32) (weighed-offset i j octets same)

-- a word in front
pub weighed-word : (octets : List ℕ) → 4 ≤ length octets → weighed_from 0 octets ≡ big_number 4 octets + weighed_from 0 (drop 4 octets)
unfolding weighed_from
weighed-word [] long = absurd (omega arith)
weighed-word (a ∷ []) long = absurd (omega arith)
weighed-word (a ∷ b ∷ []) long = absurd (omega arith)
weighed-word (a ∷ b ∷ c ∷ []) long = absurd (omega arith)
weighed-word (a ∷ b ∷ c ∷ d ∷ octets) long = omega (arith, weighed-offset 4 0 octets refl)

-- one step of the sum
pub sum-step : (sum word rest total : ℕ) → (sum + (word + rest)) % 2 ^ 32 ≡ total → ((sum + word) % 2 ^ 32 + rest) % 2 ^ 32 ≡ total
sum-step sum word rest total e = omega arith

-- octets within a word, from an offset in it on
pub weighed-shifted : (word_offset : ℕ) (octets : List ℕ) → 0 < word_offset → word_offset < 4 → word_offset + length octets ≤ 4 → weighed_from 0 octets / 2 ^
    (8 * word_offset)
    ≡ weighed_from word_offset octets
unfolding weighed_from
weighed-shifted zero octets some inside fits = absurd (omega arith)
weighed-shifted (suc zero) [] some inside fits = refl
weighed-shifted (suc zero) (a ∷ []) some inside fits = omega arith
weighed-shifted (suc zero) (a ∷ b ∷ []) some inside fits = omega arith
weighed-shifted (suc zero) (a ∷ b ∷ c ∷ []) some inside fits = omega arith
weighed-shifted (suc zero) (a ∷ b ∷ c ∷ d ∷ octets) some inside fits = absurd (omega arith)
weighed-shifted (suc (suc zero)) [] some inside fits = refl
weighed-shifted (suc (suc zero)) (a ∷ []) some inside fits = omega arith
weighed-shifted (suc (suc zero)) (a ∷ b ∷ []) some inside fits = omega arith
weighed-shifted (suc (suc zero)) (a ∷ b ∷ c ∷ octets) some inside fits = absurd (omega arith)
weighed-shifted (suc (suc (suc zero))) [] some inside fits = refl
weighed-shifted (suc (suc (suc zero))) (a ∷ []) some inside fits = omega arith
weighed-shifted (suc (suc (suc zero))) (a ∷ b ∷ octets) some inside fits = absurd (omega arith)
weighed-shifted (suc (suc (suc (suc word_offset)))) octets some inside fits = absurd (omega arith)

pub weighed-append : (at : ℕ) (xs ys : List ℕ) (following : ℕ) → following ≡ at + length xs
    → weighed_from at (xs ++ ys) ≡ weighed_from at xs + weighed_from following ys
unfolding weighed_from
weighed-append at [] ys following e = let same : following ≡ at = omega (arith, e) in omega (arith, ap (λ n. weighed_from n ys) same)
weighed-append at (x ∷ xs) ys following e =
    let rest = weighed-append (at + 1) xs ys following (omega (arith, e)) in
    omega (arith, rest)

-- of two pieces, the second at its offset
pub offsets-add-up : OffsetsAddUp
offsets-add-up i xs ys = omega (arith, weighed-append i xs ys (i + length xs) refl)

-- the second beginning at a multiple of four
pub pieces-add-up : PiecesAddUp
pieces-add-up words xs ys e =
    let whole = weighed-append 0 xs ys (length xs) (omega arith) in
    let following = weighed-offset (length xs) 0 ys (omega (arith, e)) in
    omega (arith, whole, following)

weighed-zeros : (at n : ℕ) → weighed_from at (replicate n 0) ≡ 0
unfolding weighed_from
weighed-zeros at zero = refl
weighed-zeros at (suc n) = omega (arith, weighed-zeros (at + 1) n)

pub none-added : (at n : ℕ) → checksum_at at (replicate n 0) ≡ 0
none-added at n = ap (λ sum. sum % 2 ^ 32) (weighed-zeros at n)

-- zeros at the end
pub zeros-add-nothing : ZerosAddNothing
zeros-add-nothing i n xs =
    let sum : weighed_from i (xs ++ replicate n 0) ≡ weighed_from i xs = omega (
      arith,
      weighed-append i xs (replicate n 0) (i + length xs) refl,
      weighed-zeros (i + length xs) n,
    ) in
    ap (λ k. k % 2 ^ 32) sum

-- a part in the middle
pub parts-are-replaced : PartsAreReplaced
parts-are-replaced front old new back long =
    let at = length front in
    let end = at + length old in
    let first_new = weighed-append 0 front new at (omega arith) in
    let first_old = weighed-append 0 front old at (omega arith) in
    let rest_new = weighed-append 0 (front ++ new) back end (omega (arith, long, length-append front new)) in
    let rest_old = weighed-append 0 (front ++ old) back end (omega (arith, length-append front old)) in
    omega (arith, first_new, first_old, rest_new, rest_old)

-- what follows the end of a word
pub rest-from-start : (word_offset n : ℕ) (xs : List ℕ) → word_offset < 4 → n ≡ min (length xs) (4 - word_offset) → checksum_at
    (word_offset + length (take n xs)) (drop n xs)
    ≡ checksum (drop n xs)
unfolding weighed_from
rest-from-start word_offset n xs inside n_is = elim (cases_lt n (length xs)) [
  | inl more ↦ only-word-offsets-count (word_offset + length (take n xs)) 0 (drop n xs) (omega (arith, length-take-le n xs (omega arith)))
  | inr all ↦ ap (λ ys. weighed_from (word_offset + length (take n xs)) ys % 2 ^ 32) (drop_all n xs all)
      ∙ sym (ap (λ ys. weighed_from 0 ys % 2 ^ 32) (drop_all n xs all))
]
