-- Received octets as ranges and a staged list: what is kept after octets came.
use Rattle.std.proofs.Common.{◌≡◌, ℕ, zero, suc, ◌+◌, ◌-◌, max, min, ◌≤◌, ◌<◌, List, [], ◌∷◌, length, refl, ap, sym, ◌∙◌, arith, get_or}
use Rattle.std.specs.Prelude.{◌||◌, ◌==◌, nat_le, nat_lt, if◌then◌else◌, Bool, true, false, IsTrue, IsFalse, Option, Some, None, is_some, slice_get, unwrap_or}
use Rattle.std.specs.Option.{option_or}
use Rattle.std.specs.List.{list_all}
use Rattle.std.proofs.Math.Bool.{or_assoc}
use Rattle.std.proofs.lemmas.Bool.{cases_lt, cases_Bool, cond_both, ltb-true, ltb-false, and_from, and_parts, or_left, or_right, or_from, or_cases, eqb-true, eq-eqb}
use Rattle.std.proofs.lemmas.Option.{slice_get_past, slice_get-get_or}
use mathlib.Core.Logic.{inl, inr}
use Rattle.cfdp_transactions.specs.Received.{Received, kept_with, brought, staged_of, gaps_from}
use Rattle.cfdp_transactions.specs.ReceivedLaws.{octet_at, AreRuns}
use Rattle.cfdp_transactions.specs.Pieces.{Ranges, is_in, received_from, received_in, with_range}
use Rattle.cfdp_transactions.specs.PieceLaws.{AreWithin, ArePieces, AreWritten, WholeHasNone, RangeIsAdded, RangesKeep, StagedAreKept}
use Rattle.cfdp_transactions.proofs.Received.OctetsAndGaps.{first_stays, greatest_end}
use Rattle.cfdp_transactions.proofs.Received.PieceRanges.{is_inside, inside_true, before_false, outside_after, runs_sooner, gaps_are_between}

-- what is at an offset ------------------------------------------------------------------

pub length-received : (at : ℕ) (ranges : Ranges) (xs : List ℕ) → length (received_from at ranges xs) ≡ length xs
length-received at ranges [] = refl
length-received at ranges (x ∷ xs) = ap suc (length-received (suc at) ranges xs)

-- an octet of the list, where its offset is in a range
pub received_at : (at : ℕ) (ranges : Ranges) (xs : List ℕ) (k : ℕ) → k < length xs → octet_at (received_from at ranges xs) k
    ≡ (if is_in (at + k) ranges then Some (get_or xs k 0) else None)
received_at at ranges [] k below = absurd (omega arith)
received_at at ranges (x ∷ xs) zero below = let z : at + 0 ≡ at = omega arith in rw z refl
received_at at ranges (x ∷ xs) (suc k) below = let z : at + suc k ≡ suc at + k = omega arith in rw z (received_at (suc at) ranges xs k (omega arith))

pub none_past_end : (rs : Received) (k : ℕ) → length rs ≤ k → octet_at rs k ≡ None
none_past_end [] k h = refl
none_past_end (r ∷ rs) zero h = absurd (omega arith)
none_past_end (r ∷ rs) (suc k) h = none_past_end rs k (omega arith)

pub same_received : (a b : Received) → length a ≡ length b → ((i : ℕ) → i < length a → octet_at a i ≡ octet_at b i) → a ≡ b
same_received [] [] e h = refl
same_received [] (y ∷ b) e h = absurd (omega arith)
same_received (x ∷ a) [] e h = absurd (omega arith)
same_received (x ∷ a) (y ∷ b) e h =
    let first : x ≡ y = h 0 (omega arith) in
    let others : a ≡ b = same_received a b (omega arith) (λ i below. h (suc i) (omega arith)) in
    cc

pub brought_before : (at : ℕ) (octets : List ℕ) (i : ℕ) → i < at → brought at octets i ≡ None
brought_before zero octets i h = absurd (omega arith)
brought_before (suc at) octets zero h = refl
brought_before (suc at) octets (suc i) h = brought_before at octets i (omega arith)

pub brought_there : (at : ℕ) (octets : List ℕ) (i : ℕ) → at ≤ i → brought at octets i ≡ slice_get octets (i - at)
brought_there zero octets i h = let z : i - 0 ≡ i = omega arith in rw z refl
brought_there (suc at) octets zero h = absurd (omega arith)
brought_there (suc at) octets (suc i) h = let z : suc i - suc at ≡ i - at = omega arith in rw z (brought_there at octets i (omega arith))

-- a range is added ------------------------------------------------------------------------

-- the offsets of two ranges that touch are those of one
touching : (a b s e i : ℕ) → a ≤ e → s ≤ b → a < b → s < e → is_inside (min a s) (max b e) i ≡ (is_inside a b i || is_inside s e i)
touching a b s e i ae sb ab se = elim (cases_lt i (min a s)) [
  | inl below ↦ before_false (min a s) (max b e) i below ∙ sym (or_from (is_inside a b i) (is_inside s e i) (before_false a b i (omega arith))
      (before_false s e i (omega arith)))
  | inr from ↦ elim (cases_lt i (max b e)) [
    | inr following ↦ outside_after (min a s) (max b e) i following ∙ sym (or_from (is_inside a b i) (is_inside s e i) (outside_after a b i (omega arith))
        (outside_after s e i (omega arith)))
    | inl below ↦ inside_true (min a s) (max b e) i from below ∙ sym (either i from below)
  ]
]
  where
    either : (i : ℕ) → min a s ≤ i → i < max b e → (is_inside a b i || is_inside s e i) ≡ true
    either i from below = elim (cases_lt i a) [
      | inl early ↦ or_right (is_inside a b i) (is_inside s e i) (inside_true s e i (omega arith) (omega arith))
      | inr late ↦ elim (cases_lt i b) [
        | inl inside ↦ or_left (is_inside a b i) (is_inside s e i) (inside_true a b i late inside)
        | inr past ↦ or_right (is_inside a b i) (is_inside s e i) (inside_true s e i (omega arith) (omega arith))
      ]
    ]

or_swap : (x y z : Bool) → (x || (y || z)) ≡ (y || (x || z))
or_swap true true z = refl
or_swap true false z = refl
or_swap false true z = refl
or_swap false false z = refl

members_added : (a b from i : ℕ) (ranges : Ranges) → a < b → AreRuns from ranges → is_in i (with_range a b ranges) ≡ (is_inside a b i || is_in i ranges)
members_added a b from i [] ab runs = refl
members_added a b from i ((s, e) ∷ rs) ab runs =
    cond_both (nat_lt e a) _ _ (λ (out : Ranges). is_in i out ≡ (is_inside a b i || is_in i ((s, e) ∷ rs)))
    (λ _. ap (λ (later : Bool). is_inside s e i || later) (members_added a b (e + 1) i rs ab runs.2) ∙ or_swap (is_inside s e i) (is_inside a b i) (is_in i rs))
    (λ ae. cond_both (nat_lt b s) _ _ (λ (out : Ranges). is_in i out ≡ (is_inside a b i || is_in i ((s, e) ∷ rs)))
    (λ _. refl)
    (λ sb. members_added (min a s) (max b e) (e + 1) i rs (omega arith) runs.2 ∙
    ap (λ (here : Bool). here || is_in i rs) (touching a b s e i (ltb-false _ _ ae) (ltb-false _ _ sb) ab runs.1)
    ∙ or_assoc (is_inside a b i) (is_inside s e i) (is_in i rs)))

runs_added : (a b from : ℕ) (ranges : Ranges) → from ≤ a → a < b → AreRuns from ranges → AreRuns from (with_range a b ranges)
runs_added a b from [] fa ab runs = (fa, ab, tt)
runs_added a b from ((s, e) ∷ rs) fa ab runs =
    cond_both (nat_lt e a) _ _ (AreRuns from)
    (λ ea. (runs.0, runs.1, runs_added a b (e + 1) rs (let h = ltb-true e a ea in omega arith) ab runs.2))
    (λ _. cond_both (nat_lt b s) _ _ (AreRuns from)
    (λ bs. (fa, ab, ((let h = ltb-true b s bs in omega arith), runs.1, runs.2)))
    (λ _. runs_added (min a s) (max b e) from rs (omega (arith, runs.0)) (omega arith) (runs_sooner (e + 1) from rs (omega (arith, runs.0, runs.1)) runs.2)))

pub range_is_added : RangeIsAdded
range_is_added a b ranges ab runs = (runs_added a b 0 ranges (omega arith) ab runs, (λ i. members_added a b 0 i ranges ab runs))

-- what is kept ------------------------------------------------------------------------------

-- no offset of a range is past the octets
member_below : (ranges : Ranges) (end i : ℕ) → AreWithin end ranges → IsTrue (is_in i ranges) → i < end
member_below [] end i within h = absurd cc
member_below ((s, e) ∷ rs) end i within h = elim (or_cases (is_inside s e i) (is_in i rs) h) [
  | inl here ↦ (let p = and_parts (nat_le s i) (nat_lt i e) here in let lt = ltb-true i e p.1 in omega (arith, within.0))
  | inr later ↦
      member_below rs end i within.1 later
]

-- what the new ranges and list have at an offset is what is kept there
kept_at : (ranges : Ranges) (xs : List ℕ) (at : ℕ) (octets ys : List ℕ) → ArePieces ranges xs → 0 < length octets → AreWritten ranges xs at octets ys →
    (i : ℕ) → i < length ys →
    (if is_in i (with_range at (at + length octets) ranges) then Some (get_or ys i 0) else None)
    ≡ option_or (octet_at (received_in ranges xs) i) (brought at octets i)
kept_at ranges xs at octets ys p some w i below = elim (cases_Bool (is_in i ranges)) [
  | inl old ↦
      let inside : i < length xs = member_below ranges (length xs) i p.within old in
      let now : is_in i (with_range at (at + length octets) ranges) ≡ true = added ∙ or_right (is_inside at (at + length octets) i) (is_in i ranges) old in
      rw (now, (received_at 0 ranges xs i inside ∙ same_index old)) (ap (λ (x : ℕ). Some x) (w.kept i inside old))
  | inr new ↦ rw (absent new) (elim (cases_lt i at) [
    | inl early ↦ rw (gone new (before_false at (at + length octets) i early)) (sym (brought_before at octets i early))
    | inr late ↦ elim (cases_lt i (at + length octets)) [
      | inl inside ↦
          let j : ℕ = i - at in
          let index : i ≡ at + j = omega arith in
          let now : is_in i (with_range at (at + length octets) ranges) ≡ true = added
          ∙ or_left (is_inside at (at + length octets) i) (is_in i ranges) (inside_true at (at + length octets) i late inside) in
          let value : get_or ys (at + j) 0 ≡ get_or octets j 0 = w.written j (omega arith) (rw (← index) new) in
          rw now (ap (λ (k : ℕ). Some (get_or ys k 0)) index ∙ ap (λ (x : ℕ). Some x) value
          ∙ sym (brought_there at octets i late ∙ slice_get-get_or octets j 0 (omega arith)))
      | inr past ↦ rw (gone new (outside_after at (at + length octets) i past))
          (sym (brought_there at octets i late ∙ slice_get_past octets (i - at) (omega arith)))
    ]
  ])
]
  where
    added : is_in i (with_range at (at + length octets) ranges) ≡ (is_inside at (at + length octets) i || is_in i ranges)
    added = members_added at (at + length octets) 0 i ranges (omega arith) p.runs

    gone : is_in i ranges ≡ false → is_inside at (at + length octets) i ≡ false → is_in i (with_range at (at + length octets) ranges) ≡ false
    gone new out = added ∙ or_from (is_inside at (at + length octets) i) (is_in i ranges) out new

    same_index : is_in i ranges ≡ true → (if is_in (0 + i) ranges then Some (get_or xs i 0) else None) ≡ Some (get_or xs i 0)
    same_index old = let z : 0 + i ≡ i = omega arith in rw (z, old) refl

    absent : is_in i ranges ≡ false → octet_at (received_in ranges xs) i ≡ None
    absent new = elim (cases_lt i (length xs)) [
      | inl inside ↦ received_at 0 ranges xs i inside ∙ (let z : 0 + i ≡ i = omega arith in rw (z, new) refl)
      | inr past ↦ none_past_end (received_in ranges xs) i (omega (arith, length-received 0 ranges xs))
    ]

pub kept_length : (rs : Received) (at : ℕ) (octets : List ℕ) → 0 < length octets → length (kept_with rs at octets) ≡ max (length rs) (at + length octets)
kept_length rs at [] h = absurd (omega arith)
kept_length rs at (x ∷ xs) h = greatest_end rs at x xs

pub ranges_keep : RangesKeep
ranges_keep ranges xs at octets ys p some w =
    let left = received_in (with_range at (at + length octets) ranges) ys in
    let same_length : length ys ≡ length (kept_with (received_in ranges xs) at octets) =
    omega (arith, w.long, kept_length (received_in ranges xs) at octets some, length-received 0 ranges xs) in
    same_received left (kept_with (received_in ranges xs) at octets) (length-received 0 (with_range at (at + length octets) ranges) ys ∙ same_length)
    (λ i below.
    let inside : i < length ys = omega (arith, length-received 0 (with_range at (at + length octets) ranges) ys) in
    let z : 0 + i ≡ i = omega arith in
    (rw z at (received_at 0 (with_range at (at + length octets) ranges) ys i inside)) ∙ kept_at ranges xs at octets ys p some w i inside
    ∙ sym (first_stays (received_in ranges xs) at octets i))

-- the staged list ---------------------------------------------------------------------------

staged_from : (at : ℕ) (ranges : Ranges) (xs : List ℕ) → ((k : ℕ) → k < length xs → IsFalse (is_in (at + k) ranges) → get_or xs k 0 ≡ 0) →
    staged_of (received_from at ranges xs) ≡ xs
staged_from at ranges [] h = refl
staged_from at ranges (x ∷ xs) h =
    let first : unwrap_or (if is_in at ranges then Some x else None) 0 ≡ x =
    cond_both (is_in at ranges) (Some x) None (λ (o : Option ℕ). unwrap_or o 0 ≡ x) (λ _. refl)
    (λ out. sym (h 0 (omega arith) (let z : at + 0 ≡ at = omega arith in rw z out))) in
    let others : staged_of (received_from (suc at) ranges xs) ≡ xs =
    staged_from (suc at) ranges xs (λ k below out. h (suc k) (omega arith) (let z : at + suc k ≡ suc at + k = omega arith in rw z out)) in
    cc

pub staged_are_kept : StagedAreKept
staged_are_kept ranges xs zeros = staged_from 0 ranges xs (λ k below out. zeros k below (let z : 0 + k ≡ k = omega arith in rw z at out))

-- all octets --------------------------------------------------------------------------------

gaps_begun : (left at start : ℕ) (rs : Received) → gaps_from left at (Some start) rs ≡ [] → ⊥
gaps_begun zero at start rs h = cc
gaps_begun (suc left) at start [] h = gaps_begun left (at + 1) start [] h
gaps_begun (suc left) at start (None ∷ rs) h = gaps_begun left (at + 1) start rs h
gaps_begun (suc left) at start (Some r ∷ rs) h = cc

all_no_gap : (at : ℕ) (rs : Received) → IsTrue (list_all is_some rs) → gaps_from (length rs) at None rs ≡ []
all_no_gap at [] h = refl
all_no_gap at (None ∷ rs) h = absurd cc
all_no_gap at (Some r ∷ rs) h = all_no_gap (at + 1) rs h

no_gap_all : (at : ℕ) (rs : Received) → gaps_from (length rs) at None rs ≡ [] → IsTrue (list_all is_some rs)
no_gap_all at [] h = refl
no_gap_all at (None ∷ rs) h = absurd (gaps_begun (length rs) (at + 1) at rs h)
no_gap_all at (Some r ∷ rs) h = no_gap_all (at + 1) rs h

pub whole_has_none : WholeHasNone
whole_has_none size ranges xs p =
    let rs = received_in ranges xs in
    let same = length-received 0 ranges xs in (
      (λ h.
          let both = and_parts (length rs == size) (list_all is_some rs) h in
          let long : length rs ≡ size = eqb-true (length rs) size both.0 in
          (sym same ∙ long, sym (gaps_are_between size ranges xs p (omega arith)) ∙ (rw (← long) (all_no_gap 0 rs both.1)))),
      (λ h.
          let long : length rs ≡ size = same ∙ h.0 in
          and_from (length rs == size) (list_all is_some rs) (eq-eqb (length rs) size long)
          (no_gap_all 0 rs (rw long (gaps_are_between size ranges xs p (omega (arith, h.0)) ∙ h.1)))),
    )
