-- Received octets as ranges and a staged list: how many pieces, and which gaps.
use Rattle.std.proofs.Common.{◌≡◌, ℕ, zero, suc, ◌+◌, ◌≤◌, ◌<◌, List, [], ◌∷◌, ◌++◌, length, refl, ap, sym, ◌∙◌, arith}
use Rattle.std.specs.Prelude.{⊤, ◌&&◌, ◌||◌, nat_le, nat_lt, Bool, true, false, Option, Some, None}
use Rattle.std.proofs.lemmas.Bool.{cases_lt, le-leb, lt-ltb, le-ltb, lt-leb, and_from, and_left, and_right, or_left, or_from}
use mathlib.Core.Logic.{inl, inr}
use Rattle.cfdp_transactions.specs.Received.{pieces_from, closed, started_at, gaps_from}
use Rattle.cfdp_transactions.specs.ReceivedLaws.{AreRuns}
use Rattle.cfdp_transactions.specs.Pieces.{Ranges, is_in, received_from, range, between}
use Rattle.cfdp_transactions.specs.PieceLaws.{AreWithin, PiecesAreRanges, GapsAreBetween}

abbrev pub is_inside : ℕ → ℕ → ℕ → Bool
is_inside s e i = nat_le s i && nat_lt i e

pub inside_true : (s e i : ℕ) → s ≤ i → i < e → is_inside s e i ≡ true
inside_true s e i from below = and_from _ _ (le-leb s i from) (lt-ltb i e below)

pub before_false : (s e i : ℕ) → i < s → is_inside s e i ≡ false
before_false s e i below = and_left _ _ (lt-leb s i below)

pub outside_after : (s e i : ℕ) → e ≤ i → is_inside s e i ≡ false
outside_after s e i from = and_right _ _ (le-ltb i e from)

-- the runs begin later
pub not_yet : (from i : ℕ) (ranges : Ranges) → AreRuns from ranges → i < from → is_in i ranges ≡ false
not_yet from i [] runs below = refl
not_yet from i (r ∷ rs) runs below = or_from (is_inside r.0 r.1 i) (is_in i rs) (before_false r.0 r.1 i (omega (arith, runs.0)))
    (not_yet (r.1 + 1) i rs runs.2 (omega (arith, runs.0, runs.1)))

pub runs_sooner : (from sooner : ℕ) (ranges : Ranges) → sooner ≤ from → AreRuns from ranges → AreRuns sooner ranges
runs_sooner from sooner [] h runs = tt
runs_sooner from sooner (r ∷ rs) h runs = (omega (arith, runs.0), runs.1, runs.2)

-- what is passed is no longer looked at
pub passed : (at s e : ℕ) (rs : Ranges) (xs : List ℕ) → e ≤ at → received_from at ((s, e) ∷ rs) xs ≡ received_from at rs xs
passed at s e rs [] h = refl
passed at s e rs (x ∷ xs) h = rw (outside_after s e at h, passed (suc at) s e rs xs (omega arith)) refl

-- pieces --------------------------------------------------------------------------------

none_pieces : (at : ℕ) (xs : List ℕ) → pieces_from false (received_from at [] xs) ≡ 0
none_pieces at [] = refl
none_pieces at (x ∷ xs) = none_pieces (suc at) xs

none_begins : (at : ℕ) (rs : Ranges) (end : ℕ) → AreRuns at rs → AreWithin end rs → end ≤ at → rs ≡ []
none_begins at [] end runs within h = refl
none_begins at (r ∷ rs) end runs within h = absurd (omega (arith, runs.0, runs.1, within.0))

within_more : (end more : ℕ) (rs : Ranges) → end ≤ more → AreWithin end rs → AreWithin more rs
within_more end more [] h w = tt
within_more end more (r ∷ rs) h w = (omega (arith, w.0), within_more end more rs h w.1)

abbrev CountsOut : List ℕ → Type 0
CountsOut xs = (at : ℕ) (ranges : Ranges) → AreRuns at ranges → AreWithin (at + length xs) ranges → pieces_from false (received_from at ranges xs)
    ≡ length ranges

abbrev CountsIn : List ℕ → Type 0
CountsIn xs =
    (at s e : ℕ) (rs : Ranges) → s ≤ at → at ≤ e → AreRuns (e + 1) rs → e ≤ at + length xs → AreWithin (at + length xs) rs →
    pieces_from true (received_from at ((s, e) ∷ rs) xs) ≡ length rs

count_out_end : CountsOut []
count_out_end at ranges runs within = rw (none_begins at ranges (at + 0) runs within (omega arith)) refl

count_in_end : CountsIn []
count_in_end at s e rs from to runs ends within = rw (none_begins (e + 1) rs (at + 0) runs within (omega arith)) refl

count_out_step : (x : ℕ) (xs : List ℕ) → CountsOut xs → CountsIn xs → CountsOut (x ∷ xs)
count_out_step x xs out inn at [] runs within = none_pieces at (x ∷ xs)
count_out_step x xs out inn at ((s, e) ∷ rs) runs within = elim (cases_lt at s) [
  | inl later ↦ rw (not_yet s at ((s, e) ∷ rs) (omega arith, runs.1, runs.2) later)
      (out (suc at) ((s, e) ∷ rs) (omega arith, runs.1, runs.2) (
        omega (arith, within.0),
        within_more (at + length (x ∷ xs)) (suc at + length xs) rs (omega arith) within.1,
      ))
  | inr begun ↦
      let here : is_inside s e at || is_in at rs ≡ true = or_left _ _ (inside_true s e at (omega arith) (omega (arith, runs.0, runs.1))) in
      rw here (omega (
        arith,
        inn (suc at) s e rs (omega (arith, runs.0)) (omega (arith, runs.0, runs.1)) runs.2 (omega (arith, within.0))
            (within_more (at + length (x ∷ xs)) (suc at + length xs) rs (omega arith) within.1),
      ))
]

count_in_step : (x : ℕ) (xs : List ℕ) → CountsOut xs → CountsIn xs → CountsIn (x ∷ xs)
count_in_step x xs out inn at s e rs from to runs ends within = elim (cases_lt at e) [
  | inl more ↦
      let here : is_inside s e at || is_in at rs ≡ true = or_left _ _ (inside_true s e at from more) in
      rw here (inn (suc at) s e rs (omega arith) (omega arith) runs (omega arith)
      (within_more (at + length (x ∷ xs)) (suc at + length xs) rs (omega arith) within))
  | inr over ↦
      let gone : is_inside s e at || is_in at rs ≡ false = or_from _ _ (outside_after s e at over) (not_yet (e + 1) at rs runs (omega arith)) in
      rw (gone, passed (suc at) s e rs xs (omega arith))
      (out (suc at) rs (runs_sooner (e + 1) (suc at) rs (omega arith) runs) (within_more (at + length (x ∷ xs)) (suc at + length xs) rs (omega arith) within))
]

counts : (xs : List ℕ) → CountsOut xs × CountsIn xs
counts [] = (count_out_end, count_in_end)
counts (x ∷ xs) = let ih = counts xs in (count_out_step x xs ih.0 ih.1, count_in_step x xs ih.0 ih.1)

pub pieces_are_ranges : PiecesAreRanges
pieces_are_ranges ranges xs p = (counts xs).0 0 ranges p.runs (within_more (length xs) (0 + length xs) ranges (omega arith) p.within)

-- gaps ----------------------------------------------------------------------------------

-- where the present gap began, or begins
abbrev start_of : Option ℕ → ℕ → ℕ
start_of None at = at
start_of (Some start) at = start

abbrev BegunEarlier : Option ℕ → ℕ → Type 0
BegunEarlier None at = ⊤
BegunEarlier (Some start) at = start < at

start_stays : (begun : Option ℕ) (at : ℕ) → start_of (started_at begun at) (at + 1) ≡ start_of begun at
start_stays None at = refl
start_stays (Some start) at = refl

begun_earlier : (begun : Option ℕ) (at : ℕ) → BegunEarlier begun at → BegunEarlier (started_at begun at) (at + 1)
begun_earlier None at h = omega arith
begun_earlier (Some start) at h = omega arith

closed_range : (begun : Option ℕ) (at : ℕ) (following : Ranges) → BegunEarlier begun at → closed begun at ++ following ≡ range (start_of begun at) at following
closed_range None at following h = rw (le-ltb at at (omega arith)) refl
closed_range (Some start) at following h = rw (lt-ltb start at h) refl

closed_alone : (begun : Option ℕ) (at : ℕ) → BegunEarlier begun at → closed begun at ≡ range (start_of begun at) at []
closed_alone None at h = rw (le-ltb at at (omega arith)) refl
closed_alone (Some start) at h = rw (lt-ltb start at h) refl

abbrev GapsOut : ℕ → Type 0
GapsOut left =
    (xs : List ℕ) (at : ℕ) (begun : Option ℕ) (ranges : Ranges) → BegunEarlier begun at → AreRuns at ranges → AreWithin (at + length xs) ranges →
    length xs ≤ left →
    gaps_from left at begun (received_from at ranges xs) ≡ between (start_of begun at) ranges (at + left)

abbrev GapsIn : ℕ → Type 0
GapsIn left =
    (xs : List ℕ) (at s e : ℕ) (rs : Ranges) → s ≤ at → at ≤ e → AreRuns (e + 1) rs → e ≤ at + length xs → AreWithin (at + length xs) rs → length xs ≤ left →
    gaps_from left at None (received_from at ((s, e) ∷ rs) xs) ≡ between e rs (at + left)

gaps_out_end : GapsOut zero
gaps_out_end [] at begun ranges earlier runs within short =
    rw (none_begins at ranges (at + 0) runs within (omega arith)) (let e : at + 0 ≡ at = omega arith in rw e (closed_alone begun at earlier))
gaps_out_end (x ∷ xs) at begun ranges earlier runs within short = absurd (omega arith)

gaps_in_end : GapsIn zero
gaps_in_end [] at s e rs from to runs ends within short =
    let over : e ≡ at = omega arith in
    rw (none_begins (e + 1) rs (at + 0) runs within (omega arith)) (let z : at + 0 ≡ at = omega arith in rw (z, over) (closed_alone None at tt))
gaps_in_end (x ∷ xs) at s e rs from to runs ends within short = absurd (omega arith)

gaps_out_step : (left : ℕ) → GapsOut left → GapsIn left → GapsOut (suc left)
gaps_out_step left out inn [] at begun ranges earlier runs within short =
    let none = none_begins at ranges (at + 0) runs within (omega arith) in
    let next = out [] (at + 1) (started_at begun at) [] (begun_earlier begun at earlier) tt tt (omega arith) in
    let same : at + suc left ≡ at + 1 + left = omega arith in
    rw (none, same) (next ∙ ap (λ (a : ℕ). range a (at + 1 + left) []) (start_stays begun at))
gaps_out_step left out inn (x ∷ xs) at begun [] earlier runs within short =
    let next = out xs (at + 1) (started_at begun at) [] (begun_earlier begun at earlier) tt tt (omega arith) in
    let same : at + suc left ≡ at + 1 + left = omega arith in
    let one : suc at ≡ at + 1 = omega arith in
    rw (same, one) (next ∙ ap (λ (a : ℕ). range a (at + 1 + left) []) (start_stays begun at))
gaps_out_step left out inn (x ∷ xs) at begun ((s, e) ∷ rs) earlier runs within short =
    let same : at + suc left ≡ at + 1 + left = omega arith in
    let one : suc at ≡ at + 1 = omega arith in
    elim (cases_lt at s) [
      | inl later ↦
          let next = out xs (at + 1) (started_at begun at) ((s, e) ∷ rs) (begun_earlier begun at earlier) (omega arith, runs.1, runs.2)
          (omega (arith, within.0), within_more (at + length (x ∷ xs)) (at + 1 + length xs) rs (omega arith) within.1) (omega arith) in
          rw (not_yet s at ((s, e) ∷ rs) (omega arith, runs.1, runs.2) later, same, one)
          (next ∙ ap (λ (a : ℕ). range a s (between e rs (at + 1 + left))) (start_stays begun at))
      | inr reached ↦
          let first : s ≡ at = omega (arith, runs.0) in
          let here : is_inside s e at || is_in at rs ≡ true = or_left _ _ (inside_true s e at (omega arith) (omega (arith, runs.0, runs.1))) in
          let next = inn xs (at + 1) s e rs (omega arith) (omega (arith, runs.1)) runs.2 (omega (arith, within.0))
          (within_more (at + length (x ∷ xs)) (at + 1 + length xs) rs (omega arith) within.1) (omega arith) in
          rw (here, same, one, next) (closed_range begun at (between e rs (at + 1 + left)) earlier
          ∙ ap (λ (a : ℕ). range (start_of begun at) a (between e rs (at + 1 + left))) (sym first))
    ]

gaps_in_step : (left : ℕ) → GapsOut left → GapsIn left → GapsIn (suc left)
gaps_in_step left out inn xs at s e rs from to runs ends within short = elim (cases_lt at e) [
  | inl more ↦ inside xs ends within short more
  | inr over ↦
      let here : e ≡ at = omega arith in
      rw (passed at s e rs xs over, here) (gaps_out_step left out inn xs at None rs tt (runs_sooner (e + 1) at rs (omega arith) runs) within short)
]
  where
    inside : (xs : List ℕ) → e ≤ at + length xs → AreWithin (at + length xs) rs → length xs ≤ suc left → at < e →
        gaps_from (suc left) at None (received_from at ((s, e) ∷ rs) xs) ≡ between e rs (at + suc left)
    inside [] ends within short more = absurd (omega arith)
    inside (x ∷ xs) ends within short more =
        let same : at + suc left ≡ at + 1 + left = omega arith in
        let one : suc at ≡ at + 1 = omega arith in
        let here : is_inside s e at || is_in at rs ≡ true = or_left _ _ (inside_true s e at from more) in
        rw (here, same, one) (inn xs (at + 1) s e rs (omega arith) (omega arith) runs (omega arith)
        (within_more (at + length (x ∷ xs)) (at + 1 + length xs) rs (omega arith) within) (omega arith))

gaps_of_ranges : (left : ℕ) → GapsOut left × GapsIn left
gaps_of_ranges zero = (gaps_out_end, gaps_in_end)
gaps_of_ranges (suc left) = let ih = gaps_of_ranges left in (gaps_out_step left ih.0 ih.1, gaps_in_step left ih.0 ih.1)

pub gaps_are_between : GapsAreBetween
gaps_are_between limit ranges xs p short =
    let z : 0 + limit ≡ limit = omega arith in
    rw z at ((gaps_of_ranges limit).0 xs 0 None ranges tt p.runs (within_more (length xs) (0 + length xs) ranges (omega arith) p.within) short)
