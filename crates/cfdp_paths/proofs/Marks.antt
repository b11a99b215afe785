-- The first and the last separator of some octets, by the marks of a vector of them.
--     marks_are                  the marks, as the vector's comparison makes them
--     no_mark                    where no mark is set there is no separator
--     first_mark, last_mark      the lowest mark is that of the first separator, the highest one that of the last
--     last_some, last_is         the last separator, where separators are counted
use Rattle.std.proofs.Common.{◌≡◌, ◌≢◌, ℕ, zero, suc, ◌+◌, ◌*◌, ◌<◌, ◌≤◌, ◌==◌, ◌^◌, ◌%◌, Bool, true, false, not, cond, List, [], ◌∷◌, map, length, take, drop, get_or, length-drop, refl, sym, ◌∙◌, ap, subst, ◌-◌, arith, inl, inr, w8}
use Rattle.std.specs.Int.Count.{count_trailing_zeros}
use Rattle.std.specs.List.{prefix_len, count_by}
use Rattle.std.specs.Prelude.{Option, Some, None, IsSome, replicate}
use Rattle.std.specs.Simd.Lanes.{chunk, mask_l, top, zip2}
use Rattle.std.proofs.Math.Nat.{pow-suc}
use Rattle.std.proofs.lemmas.Bool.{true≢false, cases_lt, eqb-true, false_from_ne_true}
use Rattle.std.proofs.lemmas.List.{get_or-map, get_or_past, get_or-drop, length-map}
use Rattle.std.proofs.lemmas.List.Sums.{count_by_more_yes, sum_by-take-drop}
use Rattle.std.proofs.lemmas.Nat.{pow_pos}
use Rattle.std.proofs.lemmas.Simd.{length-chunk, get_or-chunk, bitmask_splat, trailing_mask_l, none_from_empty_mask, run_in_chunk_fails, run_in_chunk_stops}
use Rattle.memchr.specs.Find.{Nowhere, NoneBefore, NoneAfter, IsLastByte, Passes}
use Rattle.cfdp_paths.specs.code.Marks.{marks_of}
use Rattle.cfdp_paths.specs.Paths.{is_separator}

pub marks_are : (octets : List ℕ) (i n : ℕ) → i + n ≤ length octets → n ≤ 64
    → mask_l (map (top 7) (zip2 (λ a b. cond (a == b) 255 0) (chunk i n octets) (replicate n 0))) % 2 ^ 64 ≡ marks_of octets i n
marks_are octets i n within few = bitmask_splat w8 (λ a b. a == b) (chunk i n octets) n 0 (length-chunk i n octets within) few

pub no_mark : (octets : List ℕ) (i n marks : ℕ) → marks ≡ marks_of octets i n → i + n ≤ length octets → marks ≡ 0
    → Nowhere (Passes is_separator octets) i (i + n)
no_mark octets i n marks are within none = λ k low high passes.
    true≢false (sym passes ∙ none_from_empty_mask is_separator octets i n 0 within (sym are ∙ none) k low high)

-- ---- the lowest mark

-- where a mark is set there is a separator
some_marked : (octets : List ℕ) → mask_l (map is_separator octets) ≢ 0 → prefix_len (λ x. not (is_separator x)) octets < length octets
some_marked [] some = absurd (some refl)
some_marked (x ∷ octets) some =
    elim (is_separator x) as (λ b. is_separator x ≡ b → prefix_len (λ y. not (is_separator y)) (x ∷ octets) < length (x ∷ octets)) [
      | true ↦ λ is. rw is (omega arith)
      | false ↦ λ isnt.
          let less = some_marked octets (λ none. some (rw isnt (omega (arith, none)))) in
          rw isnt (omega (arith, less))
    ] refl

pub first_mark : (octets : List ℕ) (i n marks : ℕ) → marks ≡ marks_of octets i n → i + n ≤ length octets → n ≤ 64 → marks ≢ 0
    → NoneBefore (Passes is_separator octets) i (i + n) (i + count_trailing_zeros 64 marks) × Passes is_separator octets (i + count_trailing_zeros 64 marks)
first_mark octets i n marks are within few some =
    let long = length-chunk i n octets within in
    let offset = count_trailing_zeros 64 marks in
    let some' : marks_of octets i n ≢ 0 = λ none. some (are ∙ none) in
    let counted : offset ≡ prefix_len (λ x. not (is_separator x)) (chunk i n octets) =
    ap (count_trailing_zeros 64) are ∙ trailing_mask_l is_separator 64 (chunk i n octets) (omega (arith, long, few)) (omega (arith, some')) in
    let less : offset < n = omega (arith, counted, some_marked (chunk i n octets) some', long) in (
      record {
        low = omega arith;
        high = omega (arith, less);
        before = λ k low high passes. true≢false (sym passes ∙ run_in_chunk_fails is_separator octets i n offset 0 within counted k low high);
      },
      run_in_chunk_stops is_separator octets i n offset 0 within counted less,
    )

-- ---- the highest mark

none_set : (marks : List Bool) → mask_l marks ≡ 0 → (k : ℕ) → get_or marks k false ≡ false
none_set [] none k = refl
none_set (true ∷ marks) none k = absurd (omega (arith, none))
none_set (false ∷ marks) none zero = refl
none_set (false ∷ marks) none (suc k) = none_set marks (omega (arith, none)) k

highest_set : (marks : List Bool) (j : ℕ) → 2 ^ j ≤ mask_l marks → mask_l marks < 2 ^ suc j
    → (get_or marks j false ≡ true) × ((k : ℕ) → j < k → get_or marks k false ≡ false)
highest_set [] j low high = absurd (omega (arith, low, pow_pos j))
highest_set (true ∷ marks) zero low high = (refl, above)
  where
    above : (k : ℕ) → 0 < k → get_or (true ∷ marks) k false ≡ false
    above zero more = absurd (omega arith)
    above (suc k) more = none_set marks (omega (arith, high)) k
highest_set (false ∷ marks) zero low high = absurd (omega (arith, low, high))
highest_set (m ∷ marks) (suc j) low high =
    let bit : cond m 1 zero ≤ 1 = elim m as (λ b. cond b 1 zero ≤ 1) [ true ↦ omega arith | false ↦ omega arith ] in
    let rest = highest_set marks j (omega (arith, bit, low, pow-suc 2 j)) (omega (arith, bit, high, pow-suc 2 (suc j))) in
    (rest.0, above rest.1)
  where
    above : ((k : ℕ) → j < k → get_or marks k false ≡ false) → (k : ℕ) → suc j < k → get_or (m ∷ marks) k false ≡ false
    above none zero more = absurd (omega arith)
    above none (suc k) more = none k (omega arith)

pub last_mark : (octets : List ℕ) (i n marks j : ℕ) → marks ≡ marks_of octets i n → i + n ≤ length octets → 2 ^ j ≤ marks → marks < 2 * 2 ^ j
    → NoneAfter (Passes is_separator octets) i (i + n) (i + j) × Passes is_separator octets (i + j)
last_mark octets i n marks j are within low high =
    let lanes = map is_separator (chunk i n octets) in
    let long : length (chunk i n octets) ≡ n = length-chunk i n octets within in
    let highest = highest_set lanes j (subst (λ m. 2 ^ j ≤ m) are low) (subst (λ m. m < 2 ^ suc j) are (omega (arith, high, pow-suc 2 j))) in
    let inside : j < n = elim (cases_lt j n) [
      | inl less ↦ less
      | inr past ↦ absurd (true≢false (sym highest.0 ∙ get_or_past lanes j false (omega (arith, past, long, length-map (chunk i n octets) is_separator))))
    ] in
    let lane : (k : ℕ) → k < n → get_or lanes k false ≡ is_separator (get_or octets (i + k) 0) =
    λ k less. get_or-map is_separator (chunk i n octets) k 0 false (omega (arith, less, long)) ∙ ap is_separator (get_or-chunk i n octets k 0 less) in (
      record {
        low = omega arith;
        high = omega (arith, inside);
        after = λ k low high here.
            let there : i + (k - i) ≡ k = omega (arith, low) in
            true≢false (sym here ∙ ap (λ m. is_separator (get_or octets m 0)) (sym there) ∙ sym (lane (k - i) (omega (arith, low, high)))
            ∙ highest.1 (k - i) (omega (arith, low)));
      },
      sym (lane j inside) ∙ highest.0,
    )

-- ---- the last separator, where separators are counted

none_counted : (octets : List ℕ) → ((k : ℕ) → k < length octets → is_separator (get_or octets k 0) ≡ true → ⊥) → count_by is_separator octets ≡ 0
none_counted [] none = refl
none_counted (x ∷ octets) none =
    let other : is_separator x ≡ false = false_from_ne_true (is_separator x) (none 0 (omega arith)) in
    rw other (none_counted octets (λ k less here. none (suc k) (omega (arith, less)) here))

last_counted : (octets : List ℕ) (offset : ℕ) → offset < length octets → is_separator (get_or octets offset 0) ≡ true
    → ((k : ℕ) → offset + 1 ≤ k → k < length octets → is_separator (get_or octets k 0) ≡ true → ⊥)
    → count_by is_separator (take offset octets) + 1 ≡ count_by is_separator octets
last_counted octets offset within here after =
    let none = none_counted (drop (offset + 1) octets)
    (λ k less there. after (offset + 1 + k) (omega arith) (omega (arith, less, length-drop (offset + 1) octets))
    (ap is_separator (sym (get_or-drop (offset + 1) octets k 0)) ∙ there)) in
    omega (arith, none, count_by_more_yes is_separator octets offset 0 within here, sum_by-take-drop (λ x. cond (is_separator x) 1 0) octets (offset + 1))

pub last_some : (octets : List ℕ) (r : Option ℕ) → IsLastByte is_separator octets r → 1 ≤ count_by is_separator octets → IsSome r
last_some octets None none some = absurd (omega (arith, some, none_counted octets (λ k less here. none k (omega arith) less here)))
last_some octets (Some offset) last some = refl

-- the index of the last separator
pub record Last (octets : List ℕ) (offset : ℕ) : Type 0 where
  pub within : offset < length octets
  pub here : get_or octets offset 0 ≡ 0
  pub count : count_by is_separator (take offset octets) + 1 ≡ count_by is_separator octets

pub last_is : (octets : List ℕ) (r : Option ℕ) (offset : ℕ) → IsLastByte is_separator octets r → r ≡ Some offset → Last octets offset
last_is octets None offset last is = cc
last_is octets (Some found) offset last is =
    let same : found ≡ offset = cc in
    let whole : Last octets found = record {
      within = last.0.high;
      here = eqb-true (get_or octets found 0) 0 last.1;
      count = last_counted octets found last.0.high last.1 last.0.after;
    } in
    subst (Last octets) same whole
