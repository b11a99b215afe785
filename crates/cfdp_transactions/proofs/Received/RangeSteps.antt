-- One range more: of a search for what is missing, and of the gaps.
use Rattle.std.proofs.Common.{◌≡◌, ℕ, suc, ◌+◌, ◌≤◌, ◌<◌, true, false, List, [], ◌∷◌, length, drop, add-one, refl, ap, sym, ◌∙◌, arith}
use Rattle.std.specs.Prelude.{◌-◌, ◌==◌, slice_index_or, ◌||◌, nat_lt, min, max, IfSome, if◌then◌else◌, Option, Some, None}
use Rattle.std.proofs.lemmas.Bool.{cases_Bool, eqb-true, eq-eqb, and_parts, true≢false, cases_lt, lt-ltb, le-ltb, and_from, or_left}
use Rattle.std.proofs.Math.Seq.{drop-cons}
use mathlib.Core.Logic.{inl, inr}
use Rattle.cfdp_transactions.specs.Received.{is_whole}
use Rattle.cfdp_transactions.specs.PieceLaws.{ArePieces}
use Rattle.cfdp_transactions.specs.ReceivedLaws.{AreRuns}
use Rattle.cfdp_transactions.specs.Pieces.{Ranges, is_in, received_in, between}
use Rattle.cfdp_transactions.specs.code.Pieces.{is_all, end_of, IsNextGap, HasAll}
use Rattle.cfdp_transactions.proofs.Received.Writing.{whole_has_none}
use Rattle.cfdp_transactions.proofs.Received.PieceRanges.{inside_true, outside_after, not_yet, runs_sooner}

-- the gaps: one more where the range does not begin at once
pub gap_before : (at : ℕ) (r : ℕ × ℕ) (rs : Ranges) (limit : ℕ) → at < r.0 → between at (r ∷ rs) limit ≡ (at, r.0) ∷ between r.1 rs limit
gap_before at r rs limit h = rw (lt-ltb at r.0 h) refl

pub no_gap_before : (at : ℕ) (r : ℕ × ℕ) (rs : Ranges) (limit : ℕ) → r.0 ≤ at → between at (r ∷ rs) limit ≡ between r.1 rs limit
no_gap_before at r rs limit h = rw (le-ltb at r.0 h) refl

-- the search: `at` is how far all is there
pub record IsSearched (ranges : Ranges) (from at : ℕ) (left : Ranges) : Type 0 where
  pub reached : from ≤ at
  pub all : HasAll ranges from at
  pub later : (i : ℕ) → at ≤ i → is_in i ranges ≡ is_in i left
  pub runs : AreRuns 0 left

pub searched_on : (ranges : Ranges) (from at : ℕ) (r : ℕ × ℕ) (left : Ranges) → r.0 ≤ at → IsSearched ranges from at (r ∷ left) →
    IsSearched ranges from (max at r.1) left
searched_on ranges from at r left h s = record {
  reached = omega (arith, s.reached);
  all = λ i lo hi. elim (cases_lt i at) [
    | inl before ↦ s.all i lo before
    | inr on ↦ s.later i on ∙ or_left _ _ (inside_true r.0 r.1 i (omega arith) (omega arith))
  ];
  later = λ i on. s.later i (omega arith) ∙ ap (λ b. b || is_in i left) (outside_after r.0 r.1 i (omega arith));
  runs = runs_sooner (r.1 + 1) 0 left (omega arith) s.runs.2;
}

-- what begins later leaves a gap
pub gap_found : (ranges : Ranges) (from at to : ℕ) (r : ℕ × ℕ) (left : Ranges) → at < r.0 → at < to → IsSearched ranges from at (r ∷ left) →
    IsNextGap ranges from to (at, min r.0 to)
gap_found ranges from at to r left h room s = record {
  from = s.reached;
  some = omega arith;
  to = omega arith;
  before = s.all;
  missing = λ i lo hi. s.later i lo ∙ not_yet r.0 i (r ∷ left) (omega arith, s.runs.1, s.runs.2) (omega arith);
  longest = elim (cases_lt r.0 to) [
    | inl sooner ↦ inr (let e : min r.0 to ≡ r.0 = omega arith in rw e (s.later r.0 (omega arith)
        ∙ or_left _ _ (inside_true r.0 r.1 r.0 (omega arith) s.runs.1)))
    | inr later ↦ inl (omega arith)
  ];
}

pub all_found : (ranges : Ranges) (from at to : ℕ) (left : Ranges) → to ≤ at → IsSearched ranges from at left → HasAll ranges from to
all_found ranges from at to left h s i lo hi = s.all i lo (omega arith)

pub last_end : (rs : Ranges) → 1 ≤ length rs → (slice_index_or rs (length rs - 1) (0, 0)).1 ≡ end_of rs
last_end [] h = absurd (omega arith)
last_end (r ∷ []) h = refl
last_end (r ∷ s ∷ rs) h =
    let following = last_end (s ∷ rs) (omega arith) in
    let next : suc (suc (length rs)) - 1 ≡ suc (suc (length rs) - 1) = omega arith in
    rw next following

-- and at the index k of the ranges
module _ (items : Ranges) (from at k : ℕ) (there : k < length items) (s : IsSearched items from at (drop k items)) where
  abbrev here : ℕ × ℕ
  here = slice_index_or items k (0, 0)

  at_here : IsSearched items from at (here ∷ drop (suc k) items)
  at_here = rw (drop-cons items k (0, 0)) at s

  pub search_on : (m : ℕ) → (slice_index_or items k (0, 0)).0 ≤ at → m ≡ max at (slice_index_or items k (0, 0)).1 → IsSearched items from m (drop (k + 1) items)
  search_on m h e = rw (e, add-one) (searched_on items from at here (drop (suc k) items) h at_here)

  pub search_finds : (ranges : Ranges) (to n : ℕ) (r : Option (ℕ × ℕ)) → items ≡ ranges → at < (slice_index_or items k (0, 0)).0 → n
      ≡ min (slice_index_or items k (0, 0)).0 to
      → r ≡ (if nat_lt at n then Some (at, n) else None) → IfSome r (IsNextGap ranges from to)
  search_finds ranges to n r same h e f = elim (cases_lt at to) [
    | inl more ↦
        let runs : nat_lt at n ≡ true = lt-ltb at n (omega (arith, e, h)) in
        rw (f, runs, ← same, e) (gap_found items from at to here (drop (suc k) items) h more at_here)
    | inr past ↦ let none : nat_lt at n ≡ false = le-ltb at n (omega (arith, e)) in rw (f, none) tt
  ]

-- of ranges that end where the octets do: all octets are there exactly where one range holds them all
all_none : (size : ℕ) (ranges : Ranges) → AreRuns 0 ranges → is_all size ranges ≡ true → (end_of ranges ≡ size) × (between 0 ranges size ≡ [])
all_none size [] runs h = let none : size ≡ 0 = eqb-true size 0 h in rw none (refl, refl)
all_none size (r ∷ []) runs h =
    let both = and_parts (r.0 == 0) (r.1 == size) h in
    let first : r.0 ≡ 0 = eqb-true r.0 0 both.0 in
    let last : r.1 ≡ size = eqb-true r.1 size both.1 in
    (last, rw (first, last, le-ltb size size (omega arith)) refl)
all_none size (r ∷ s ∷ rs) runs h = absurd (true≢false (sym h))

none_all : (size : ℕ) (ranges : Ranges) → AreRuns 0 ranges → (end_of ranges ≡ size) × (between 0 ranges size ≡ []) → is_all size ranges ≡ true
none_all size [] runs h = eq-eqb size 0 (sym h.0)
none_all size (r ∷ []) runs h = elim (cases_lt 0 r.0) [
  | inl later ↦ let gap : (0, r.0) ∷ between r.1 [] size ≡ [] = sym (gap_before 0 r [] size later) ∙ h.1 in absurd (cc)
  | inr first ↦ and_from (r.0 == 0) (r.1 == size) (eq-eqb r.0 0 (omega arith)) (eq-eqb r.1 size h.0)
]
none_all size (r ∷ s ∷ rs) runs h =
    let gap : between r.1 (s ∷ rs) size ≡ (r.1, s.0) ∷ between s.1 rs size = gap_before r.1 s rs size (omega (arith, runs.2.0)) in
    elim (cases_lt 0 r.0) [
      | inl later ↦ let none : (0, r.0) ∷ between r.1 (s ∷ rs) size ≡ [] = sym (gap_before 0 r (s ∷ rs) size later) ∙ h.1 in absurd (cc)
      | inr first ↦ let none : (r.1, s.0) ∷ between s.1 rs size ≡ [] = sym gap ∙ sym (no_gap_before 0 r (s ∷ rs) size first) ∙ h.1 in absurd (cc)
    ]

pub all_is_whole : (size : ℕ) (ranges : Ranges) (xs : List ℕ) → ArePieces ranges xs → end_of ranges ≡ length xs → is_whole size (received_in ranges xs)
    ≡ is_all size ranges
all_is_whole size ranges xs p e = elim (cases_Bool (is_all size ranges)) [
  | inl all ↦
      let both = all_none size ranges p.runs all in
      (whole_has_none size ranges xs p).1 (sym e ∙ both.0, both.1) ∙ sym all
  | inr some ↦ elim (cases_Bool (is_whole size (received_in ranges xs))) [
    | inl whole ↦ let both = (whole_has_none size ranges xs p).0 whole in absurd (true≢false (sym (none_all size ranges p.runs (e ∙ both.0, both.1)) ∙ some))
    | inr less ↦ less ∙ sym some
  ]
]
