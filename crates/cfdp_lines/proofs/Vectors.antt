-- Words decoded sixteen octets at once.
use Rattle.std.proofs.Common.{◌≡◌, ◌∙◌, ℕ, zero, suc, ◌+◌, ◌-◌, ◌*◌, ◌/◌, ◌%◌, ◌<◌, ◌≤◌, Bool, true, false, ◌&&◌, ◌||◌, cond, eqb, leb, List, [], ◌∷◌, ◌++◌, length, map, take, drop, get_or, length-take, length-drop, Fits, w8, refl, sym, ap, ap₂, subst, arith, inl, inr}
use Rattle.std.specs.Int.Bits.{bit_or}
use Rattle.std.specs.List.{range_with_len}
use Rattle.std.specs.Simd.Lanes.{fold_l}
use Rattle.std.proofs.lemmas.Bool.{cases_lt, and_parts, false≢true}
use Rattle.std.proofs.lemmas.List.{take_all, get_or-drop, get_or-map, get_or-take, get_or_past, length-map, get_or_append_left, get_or-append_right}
use Rattle.std.proofs.lemmas.List.FromFn.{get_or-map-range_with_len}
use Rattle.std.proofs.lemmas.Nat.{or_lt, le_or_l, le_or_r}
use Rattle.std.proofs.lemmas.Simd.{length-chunk, get_or-chunk, get_or-put_chunk_at, Each1-get_or, Each1-from_get_or, zip2_of_maps}
use lib.Lanes.{chunk, zip2, sel_l, top, put_chunk}
use Rattle.cfdp_lines.specs.code.Digits.{AreSixteenOctets, ArePairs, AreNibbles, AreValues, IsValue, value_of}
use Rattle.cfdp_lines.proofs.Pairs.{octet_at, of_values}

-- ---- lane by lane

sel-map : (m f g : ℕ → ℕ) (xs : List ℕ) → sel_l (map (top 7) (map m xs)) (map f xs) (map g xs) ≡ map (λ x. cond (top 7 (m x)) (f x) (g x)) xs
sel-map m f g [] = refl
sel-map m f g (x ∷ xs) = ap (λ r. cond (top 7 (m x)) (f x) (g x) ∷ r) (sel-map m f g xs)

-- a choice between two vectors that were made lane by lane from v
chosen : (m f g : ℕ → ℕ) (v : List ℕ) {s a b : List ℕ} → s ≡ map m v → a ≡ map f v → b ≡ map g v
    → sel_l (map (top 7) s) a b ≡ map (λ x. cond (top 7 (m x)) (f x) (g x)) v
chosen m f g v {s} {a} {b} r p q =
    ap (λ (l : List ℕ). sel_l (map (top 7) l) a b) r
    ∙ ap₂ (sel_l (map (top 7) (map m v))) p q
    ∙ sel-map m f g v

-- the lesser of both in each lane, and the greater, by what an operator says of them
pub lesser : (h : ℕ → ℕ → ℕ) (f g : ℕ → ℕ) (v : List ℕ) {a b : List ℕ} → a ≡ map f v → b ≡ map g v
    → sel_l (map (top 7) (zip2 h a b)) a b ≡ map (λ x. cond (top 7 (h (f x) (g x))) (f x) (g x)) v
lesser h f g v p q = chosen (λ x. h (f x) (g x)) f g v (zip2_of_maps h f g v p q) p q

pub greater : (h : ℕ → ℕ → ℕ) (f g : ℕ → ℕ) (v : List ℕ) {a b : List ℕ} → a ≡ map f v → b ≡ map g v
    → sel_l (map (top 7) (zip2 h a b)) b a ≡ map (λ x. cond (top 7 (h (f x) (g x))) (g x) (f x)) v
greater h f g v p q = chosen (λ x. h (f x) (g x)) g f v (zip2_of_maps h f g v p q) q p

-- the octets of a load
pub chunk_octets : (i : ℕ) (xs : List ℕ) → i + 16 ≤ length xs → ((k : ℕ) → Fits w8 (get_or xs k 0)) → AreSixteenOctets (chunk i 16 xs)
chunk_octets i xs room fits =
    let P : ℕ → Type 0 = λ n. n < 256 in
    let long = length-chunk i 16 xs room in
    record {
      long = long;
      small = λ k. elim (cases_lt k 16) [
        | inl within ↦ subst P (sym (get_or-chunk i 16 xs k 0 within)) (fits (i + k)).fits
        | inr past ↦ subst P (sym (get_or_past (chunk i 16 xs) k 0 (omega (arith, long)))) (omega arith)
      ];
    }

-- ---- the values of digits

-- what is computed of an octet is its value, or neither is below 16
abbrev is_value : ℕ → ℕ → Bool
is_value number value = eqb number value || (leb 16 number && leb 16 value)

abbrev pub are_values : (ℕ → ℕ) → ℕ → Bool
are_values f zero = true
are_values f (suc n) = is_value (f n) (value_of n) && are_values f n

from_test : (number value : ℕ) → is_value number value ≡ true → IsValue number value
from_test number value e = record { read = λ h. grind (arith, e); found = λ h. grind (arith, e) }

value_at : (f : ℕ → ℕ) (n k : ℕ) → are_values f n ≡ true → k < n → IsValue (f k) (value_of k)
value_at f zero k h lt = absurd (omega arith)
value_at f (suc n) k h lt =
    let parts = and_parts (is_value (f n) (value_of n)) (are_values f n) h in
    elim (cases_lt k n) [
      | inl below ↦ value_at f n k parts.1 below
      | inr last ↦
          let e : n ≡ k = omega arith in
          subst (λ (j : ℕ). IsValue (f j) (value_of j)) e (from_test (f n) (value_of n) parts.0)
    ]

pub values_are : (v z : List ℕ) → AreSixteenOctets v → (f : ℕ → ℕ) → z ≡ map f v → are_values f 256 ≡ true → AreValues v z
values_are v z octets f lanes all = record {
  long = ap length lanes ∙ length-map v f ∙ octets.long;
  are = λ k h.
      let number = ap (λ (l : List ℕ). get_or l k 0) lanes ∙ get_or-map f v k 0 0 (omega (arith, octets.long)) in
      subst (λ (n : ℕ). IsValue n (value_of (get_or v k 0))) (sym number) (value_at f 256 (get_or v k 0) all (octets.small k));
}

-- of two loads, one after the other
pub values_at : (word front back : List ℕ) → 32 ≤ length word → AreValues (chunk 0 16 word) front
    → AreValues (chunk 16 16 word) back → (k : ℕ) → k < 32 → IsValue (get_or (front ++ back) k 0) (value_of (get_or word k 0))
values_at word front back long first second k h =
    elim (cases_lt k 16) [
      | inl low ↦
          let same : 0 + k ≡ k = omega arith in
          let number = get_or_append_left front back 0 k (omega (arith, first.long)) in
          let octet = get_or-chunk 0 16 word k 0 low ∙ ap (λ (j : ℕ). get_or word j 0) same in
          subst (λ (n : ℕ). IsValue n (value_of (get_or word k 0))) (sym number)
          (subst (λ (x : ℕ). IsValue (get_or front k 0) (value_of x)) octet (first.are k low))
      | inr high ↦
          let at : k - 16 < 16 = omega arith in
          let same : 16 + (k - 16) ≡ k = omega arith in
          let number = get_or-append_right front back 16 k 0 first.long high in
          let octet = get_or-chunk 16 16 word (k - 16) 0 at ∙ ap (λ (j : ℕ). get_or word j 0) same in
          subst (λ (n : ℕ). IsValue n (value_of (get_or word k 0))) (sym number)
          (subst (λ (x : ℕ). IsValue (get_or back (k - 16) 0) (value_of x)) octet (second.are (k - 16) at))
    ]

-- ---- sixteen pairs

abbrev pub pair_at : List ℕ → ℕ → ℕ
pair_at values k = (get_or values (2 * k) 0 * 16 % 256 + get_or values (2 * k + 1) 0) % 256

abbrev pub both_at : List ℕ → ℕ → ℕ
both_at values k = bit_or (get_or values (2 * k) 0) (get_or values (2 * k + 1) 0)

abbrev pub sixteen : (ℕ → ℕ) → List ℕ
sixteen f = map f (range_with_len 0 16)

sixteen_at : (f : ℕ → ℕ) (k : ℕ) → k < 16 → get_or (sixteen f) k 0 ≡ f k
sixteen_at f k h = get_or-map-range_with_len f 0 16 k k 0 h (omega arith)

-- the lane of a pair is small: so are both values
both_small : (values : List ℕ) (j : ℕ) → both_at values j < 16 → (get_or values (2 * j) 0 < 16) × (get_or values (2 * j + 1) 0 < 16)
both_small values j h =
    let l = le_or_l (get_or values (2 * j) 0) (get_or values (2 * j + 1) 0) in
    let r = le_or_r (get_or values (2 * j) 0) (get_or values (2 * j + 1) 0) in
    (omega (arith, l, h), omega (arith, r, h))

module _ (values : List ℕ) where
  lane_small : AreNibbles (sixteen (both_at values)) → (j : ℕ) → j < 16 → both_at values j < 16
  lane_small few j h =
      let P : ℕ → Type 0 = λ n. n < 16 in
      subst P (sixteen_at (both_at values) j h) (Each1-get_or P (sixteen (both_at values)) j 0 h few)

  value_small : AreNibbles (sixteen (both_at values)) → (k : ℕ) → k < 32 → get_or values k 0 < 16
  value_small few k h =
      let j = k / 2 in
      let within : j < 16 = omega arith in
      let both = both_small values j (lane_small few j within) in
      elim (cases_lt k (2 * j + 1)) [
        | inl first ↦ let e : 2 * j ≡ k = omega arith in subst (λ (n : ℕ). get_or values n 0 < 16) e both.0
        | inr second ↦ let e : 2 * j + 1 ≡ k = omega arith in subst (λ (n : ℕ). get_or values n 0 < 16) e both.1
      ]

  lanes_small : ((k : ℕ) → k < 32 → get_or values k 0 < 16) → AreNibbles (sixteen (both_at values))
  lanes_small small =
      let P : ℕ → Type 0 = λ n. n < 16 in
      Each1-from_get_or P (sixteen (both_at values)) 0 (λ j h.
      subst P (sym (sixteen_at (both_at values) j h))
      (or_lt 4 (get_or values (2 * j) 0) (get_or values (2 * j + 1) 0) (small (2 * j) (omega (arith, h))) (small (2 * j + 1) (omega (arith, h)))))

pub block_pairs : (word values room : List ℕ) → ((k : ℕ) → k < 32 → IsValue (get_or values k 0) (value_of (get_or word k 0)))
    → 16 ≤ length room → ArePairs word (put_chunk 0 room (sixteen (pair_at values))) 16 (AreNibbles (sixteen (both_at values)))
block_pairs word values room are fits = record {
  spelled = λ few k h.
      let ys = sixteen (pair_at values) in
      let same : 0 + k ≡ k = omega arith in
      let high = value_small values few (2 * k) (omega arith) in
      let low = value_small values few (2 * k + 1) (omega arith) in
      ap (λ (j : ℕ). get_or (put_chunk 0 room ys) j 0) (sym same)
      ∙ get_or-put_chunk_at 0 room ys k 0 h fits
      ∙ sixteen_at (pair_at values) k h
      ∙ of_values word k (get_or values (2 * k) 0) (get_or values (2 * k + 1) 0) high low
      ((are (2 * k) (omega arith)).read high) ((are (2 * k + 1) (omega arith)).read low);
  tested = λ few k h.
      let small = value_small values few k h in
      let P : ℕ → Type 0 = λ n. n < 16 in subst P ((are k h).read small) small;
  good = λ all. lanes_small values (λ k h.
      let P : ℕ → Type 0 = λ n. n < 16 in subst P (sym ((are k h).found (all k h))) (all k h));
}

-- ---- lanes that are small

small_or : (xs ys : List ℕ) → length xs ≡ length ys → AreNibbles (zip2 bit_or xs ys) → AreNibbles xs × AreNibbles ys
small_or [] [] e h = (tt, tt)
small_or [] (y ∷ ys) e h = absurd (omega arith)
small_or (x ∷ xs) [] e h = absurd (omega arith)
small_or (x ∷ xs) (y ∷ ys) e h =
    let rest = small_or xs ys (omega arith) h.1 in
    let l = le_or_l x y in
    let r = le_or_r x y in
    let both : bit_or x y < 16 = h.0 in
    ((omega (arith, l, both), rest.0), (omega (arith, r, both), rest.1))

or_small : (xs ys : List ℕ) → AreNibbles xs → AreNibbles ys → AreNibbles (zip2 bit_or xs ys)
or_small [] ys a b = tt
or_small (x ∷ xs) [] a b = tt
or_small (x ∷ xs) (y ∷ ys) a b = (or_lt 4 x y a.0 b.0, or_small xs ys a.1 b.1)

-- ---- more pairs

module _ (word sub : List ℕ) (i m : ℕ) (digits : Type 0) (next : ArePairs (drop (2 * i) word) sub m digits) where
  following_at : (j k : ℕ) → 2 * i + j ≡ k → value_of (get_or (drop (2 * i) word) j 0) ≡ value_of (get_or word k 0)
  following_at j k e = ap value_of (get_or-drop (2 * i) word j 0 ∙ ap (λ (n : ℕ). get_or word n 0) e)

  next_spelled : digits → (k : ℕ) → i ≤ k → k < i + m → get_or sub (k - i) 0 ≡ octet_at word k
  next_spelled few k from to =
      next.spelled few (k - i) (omega arith)
      ∙ ap (λ (x : ℕ). x * 16 + value_of (get_or (drop (2 * i) word) (2 * (k - i) + 1) 0)) (following_at (2 * (k - i)) (2 * k) (omega arith))
      ∙ ap (λ (x : ℕ). value_of (get_or word (2 * k) 0) * 16 + x) (following_at (2 * (k - i) + 1) (2 * k + 1) (omega arith))

  next_good : ((k : ℕ) → k < 2 * (i + m) → value_of (get_or word k 0) < 16) → digits
  next_good all =
      let P : ℕ → Type 0 = λ n. n < 16 in
      next.good (λ k h. subst P (sym (following_at k (2 * i + k) refl)) (all (2 * i + k) (omega arith)))

  -- also where pairs from i on were decoded already
  pub pairs_more : (room post : List ℕ) (n : ℕ) (before whole : Type 0) → ArePairs word room n before → i ≤ n → n ≤ i + m → i ≤ length room
      → m ≤ length sub → (whole → before × digits) → (before → digits → whole) → ArePairs word (take i room ++ (sub ++ post)) (i + m) whole
  pairs_more room post n before whole pairs from to within long both join =
      let front : length (take i room) ≡ i = omega (arith, length-take i room) in
      let P : ℕ → Type 0 = λ n. n < 16 in
      record {
        spelled = λ few k h. elim (cases_lt k i) [
          | inl earlier ↦
              get_or_append_left (take i room) (sub ++ post) 0 k (omega (arith, front))
              ∙ get_or-take i room k 0 earlier
              ∙ pairs.spelled (both few).0 k (omega arith)
          | inr after ↦
              get_or-append_right (take i room) (sub ++ post) i k 0 front after
              ∙ get_or_append_left sub post 0 (k - i) (omega (arith, long))
              ∙ next_spelled (both few).1 k after h
        ];
        tested = λ few k h. elim (cases_lt k (2 * i)) [
          | inl earlier ↦ pairs.tested (both few).0 k (omega arith)
          | inr after ↦ subst P (following_at (k - 2 * i) k (omega arith)) (next.tested (both few).1 (k - 2 * i) (omega arith))
        ];
        good = λ all. join (pairs.good (λ k h. all k (omega arith))) (next_good all);
      }

  -- a piece that is no digits: no more of the word is looked at
  pub piece_bad : (room : List ℕ) (n : ℕ) → i + m ≤ n → (digits → ⊥) → ArePairs word room n (false ≡ true)
  piece_bad room n to bad = record {
    spelled = λ e. absurd (false≢true e);
    tested = λ e. absurd (false≢true e);
    good = λ all. absurd (bad (next_good (λ k h. all k (omega arith))));
  }

-- sixteen pairs more
pub block_more : (word sub : List ℕ) (i : ℕ) (more : List ℕ) → ArePairs (drop (2 * i) word) sub 16 (AreNibbles more)
    → (room post seen : List ℕ) (n : ℕ) → ArePairs word room n (AreNibbles seen) → i ≤ n → n ≤ i + 16 → i ≤ length room
    → 16 ≤ length sub → length seen ≡ length more → ArePairs word (take i room ++ (sub ++ post)) (i + 16) (AreNibbles (zip2 bit_or seen more))
block_more word sub i more next room post seen n pairs from to within long lanes =
    pairs_more word sub i 16 (AreNibbles more) next room post n (AreNibbles seen) (AreNibbles (zip2 bit_or seen more)) pairs from to within long
    (small_or seen more lanes) (or_small seen more)

-- a piece of the word, with all its pairs
pub from_piece : (word sub : List ℕ) (i m n t : ℕ) (digits : Type 0) → n ≡ m → 2 * m ≤ t → ArePairs (take t (drop (2 * i) word)) sub n digits
    → ArePairs (drop (2 * i) word) sub m digits
from_piece word sub i m n t digits e long next =
    let rest = drop (2 * i) word in
    let at : (k : ℕ) → k < 2 * m → value_of (get_or (take t rest) k 0) ≡ value_of (get_or rest k 0) =
    λ k h. ap value_of (get_or-take t rest k 0 (omega arith)) in
    let P : ℕ → Type 0 = λ n. n < 16 in
    record {
      spelled = λ few k h.
          next.spelled few k (omega arith)
          ∙ ap₂ (λ (x y : ℕ). x * 16 + y) (at (2 * k) (omega arith)) (at (2 * k + 1) (omega arith));
      tested = λ few k h. subst P (at k h) (next.tested few k (omega arith));
      good = λ all. next.good (λ k h. subst P (sym (at k (omega arith))) (all k (omega arith)));
    }

-- a load of what is from one offset on
pub from_there : (word sub : List ℕ) (i : ℕ) (digits : Type 0) → ArePairs (take (length word - 2 * i) (drop (2 * i) word)) sub 16 digits
    → ArePairs (drop (2 * i) word) sub 16 digits
from_there word sub i digits next =
    let rest = drop (2 * i) word in
    subst (λ (w : List ℕ). ArePairs w sub 16 digits) (take_all (length word - 2 * i) rest (omega (arith, length-drop (2 * i) word))) next

-- ---- all lanes or-ed together

fold_small : (seen : ℕ) (lanes : List ℕ) → fold_l bit_or seen lanes < 16 → (seen < 16) × AreNibbles lanes
fold_small seen [] h = (h, tt)
fold_small seen (lane ∷ lanes) h =
    let rest = fold_small (bit_or seen lane) lanes h in
    let l = le_or_l seen lane in
    let r = le_or_r seen lane in
    (omega (arith, l, rest.0), (omega (arith, r, rest.0), rest.1))

small_fold : (seen : ℕ) (lanes : List ℕ) → seen < 16 → AreNibbles lanes → fold_l bit_or seen lanes < 16
small_fold seen [] h few = h
small_fold seen (lane ∷ lanes) h few = small_fold (bit_or seen lane) lanes (or_lt 4 seen lane h few.0) few.1

pub by_fold : (word room lanes : List ℕ) (n : ℕ) → ArePairs word room n (AreNibbles lanes) → ArePairs word room n (fold_l bit_or 0 lanes < 16)
by_fold word room lanes n pairs = record {
  spelled = λ few. pairs.spelled (fold_small 0 lanes few).1;
  tested = λ few. pairs.tested (fold_small 0 lanes few).1;
  good = λ all. small_fold 0 lanes (omega arith) (pairs.good all);
}
