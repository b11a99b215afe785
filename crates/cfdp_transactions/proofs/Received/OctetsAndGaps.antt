-- Received octets and their gaps.
use Rattle.std.proofs.Common.{◌≡◌, ℕ, zero, suc, ◌+◌, ◌≤◌, ◌<◌, List, [], ◌∷◌, ◌++◌, length, ◌⊎◌, refl, arith}
use Rattle.std.specs.Prelude.{⊤, Option, Some, None, true, false}
use Rattle.std.specs.Option.{option_or}
use Rattle.std.proofs.lemmas.Bool.{cases_lt}
use mathlib.Core.Logic.{inl, inr}
use Rattle.cfdp_transactions.specs.Received.{Received, brought, pieces_from, closed, started_at, gaps_from}
use Rattle.cfdp_transactions.specs.ReceivedLaws.{octet_at, FirstStays, GreatestEnd, IsIn, AreRuns, GapsAreMissing, GapsAreRuns, FewGaps}

or_else_none : (o : Option ℕ) → o ≡ option_or o None
or_else_none None = refl
or_else_none (Some x) = refl

brought_none : (at i : ℕ) → brought at [] i ≡ None
brought_none zero i = refl
brought_none (suc at) zero = refl
brought_none (suc at) (suc i) = brought_none at i

pub first_stays : FirstStays
first_stays rs at [] i = rw (brought_none at i) (or_else_none (octet_at rs i))
first_stays [] zero (x ∷ xs) zero = refl
first_stays [] zero (x ∷ xs) (suc i) = first_stays [] zero xs i
first_stays [] (suc at) (x ∷ xs) zero = refl
first_stays [] (suc at) (x ∷ xs) (suc i) = first_stays [] at (x ∷ xs) i
first_stays (None ∷ rs) zero (x ∷ xs) zero = refl
first_stays (None ∷ rs) zero (x ∷ xs) (suc i) = first_stays rs zero xs i
first_stays (Some r ∷ rs) zero (x ∷ xs) zero = refl
first_stays (Some r ∷ rs) zero (x ∷ xs) (suc i) = first_stays rs zero xs i
first_stays (r ∷ rs) (suc at) (x ∷ xs) zero = or_else_none r
first_stays (r ∷ rs) (suc at) (x ∷ xs) (suc i) = first_stays rs at (x ∷ xs) i

pub greatest_end : GreatestEnd
greatest_end [] zero x [] = refl
greatest_end [] zero x (y ∷ xs) = omega (arith, greatest_end [] zero y xs)
greatest_end [] (suc at) x xs = omega (arith, greatest_end [] at x xs)
greatest_end (None ∷ rs) zero x [] = omega arith
greatest_end (None ∷ rs) zero x (y ∷ xs) = omega (arith, greatest_end rs zero y xs)
greatest_end (Some r ∷ rs) zero x [] = omega arith
greatest_end (Some r ∷ rs) zero x (y ∷ xs) = omega (arith, greatest_end rs zero y xs)
greatest_end (r ∷ rs) (suc at) x xs = omega (arith, greatest_end rs at x xs)

-- gaps --------------------------------------------------------------------------------

in_append : (i : ℕ) (a b : List (ℕ × ℕ)) → IsIn i (a ++ b) → IsIn i a ⊎ IsIn i b
in_append i [] b h = inr h
in_append i (r ∷ a) b (inl h) = inl (inl h)
in_append i (r ∷ a) b (inr h) = elim (in_append i a b h) [ inl p ↦ inl (inr p) | inr p ↦ inr p ]

in_left : (i : ℕ) (a b : List (ℕ × ℕ)) → IsIn i a → IsIn i (a ++ b)
in_left i [] b h = elim h [ ]
in_left i (r ∷ a) b (inl h) = inl h
in_left i (r ∷ a) b (inr h) = inr (in_left i a b h)

in_right : (i : ℕ) (a b : List (ℕ × ℕ)) → IsIn i b → IsIn i (a ++ b)
in_right i [] b h = h
in_right i (r ∷ a) b h = inr (in_right i a b h)

-- in the gap that has begun
abbrev IsBegun : Option ℕ → ℕ → ℕ → Type 0
IsBegun None at i = ⊥
IsBegun (Some start) at i = (start ≤ i) × (i < at)

-- among the offsets from `at` on
pub record IsMissing (left at : ℕ) (rs : Received) (i : ℕ) : Type 0 where
  pub k : ℕ
  pub below : k < left
  pub is : i ≡ at + k
  pub none : octet_at rs k ≡ None

later_missing : (left at : ℕ) (r : Option ℕ) (rs : Received) (i : ℕ) → IsMissing left (at + 1) rs i → IsMissing (suc left) at (r ∷ rs) i
later_missing left at r rs i m = record { k = suc m.k; below = omega (arith, m.below); is = omega (arith, m.is); none = m.none }

later_missing_end : (left at i : ℕ) → IsMissing left (at + 1) [] i → IsMissing (suc left) at [] i
later_missing_end left at i m = record { k = suc m.k; below = omega (arith, m.below); is = omega (arith, m.is); none = refl }

begun_missing : (begun : Option ℕ) (left at : ℕ) (rs : Received) (i : ℕ) → octet_at rs 0 ≡ None → IsBegun (started_at begun at) (at + 1) i → IsBegun begun at i
    ⊎ IsMissing (suc left) at rs i
begun_missing None left at rs i none h = inr (record { k = 0; below = omega arith; is = omega arith; none = none })
begun_missing (Some start) left at rs i none h = elim (cases_lt i at)
    [ inl lt ↦ inl (h.0, lt) | inr ge ↦ inr (record { k = 0; below = omega arith; is = omega arith; none = none }) ]

closed_begun : (begun : Option ℕ) (at i : ℕ) → IsIn i (closed begun at) → IsBegun begun at i
closed_begun None at i h = elim h [ ]
closed_begun (Some start) at i (inl h) = h
closed_begun (Some start) at i (inr h) = elim h [ ]

begun_closed : (begun : Option ℕ) (at i : ℕ) → IsBegun begun at i → IsIn i (closed begun at)
begun_closed None at i h = elim h [ ]
begun_closed (Some start) at i h = inl h

gap_missing : (left at : ℕ) (begun : Option ℕ) (rs : Received) (i : ℕ) → IsIn i (gaps_from left at begun rs) → IsBegun begun at i ⊎ IsMissing left at rs i
gap_missing zero at begun rs i h = inl (closed_begun begun at i h)
gap_missing (suc left) at begun [] i h = elim (gap_missing left (at + 1) (started_at begun at) [] i h)
    [ inl b ↦ begun_missing begun left at [] i refl b | inr m ↦ inr (later_missing_end left at i m) ]
gap_missing (suc left) at begun (None ∷ rs) i h = elim (gap_missing left (at + 1) (started_at begun at) rs i h)
    [ inl b ↦ begun_missing begun left at (None ∷ rs) i refl b | inr m ↦ inr (later_missing left at None rs i m) ]
gap_missing (suc left) at begun (Some r ∷ rs) i h = elim (in_append i (closed begun at) (gaps_from left (at + 1) None rs) h) [
  | inl c ↦ inl (closed_begun begun at i c)
  | inr g ↦ elim (gap_missing left (at + 1) None rs i g) [ inl b ↦ elim b [ ] | inr m ↦ inr (later_missing left at (Some r) rs i m) ]
]

begun_on : (begun : Option ℕ) (at i : ℕ) → IsBegun begun at i → IsBegun (started_at begun at) (at + 1) i
begun_on None at i h = elim h [ ]
begun_on (Some start) at i h = (h.0, omega (arith, h.1))

abbrev BegunBefore : Option ℕ → ℕ → Type 0
BegunBefore None at = ⊤
BegunBefore (Some start) at = start ≤ at

still_before : (begun : Option ℕ) (at : ℕ) → BegunBefore begun at → BegunBefore (started_at begun at) (at + 1)
still_before None at h = omega arith
still_before (Some start) at h = omega arith

begun_here : (begun : Option ℕ) (at i : ℕ) → BegunBefore begun at → i ≡ at → IsBegun (started_at begun at) (at + 1) i
begun_here None at i h e = (omega arith, omega arith)
begun_here (Some start) at i h e = (omega arith, omega arith)

begun_gap : (left at : ℕ) (begun : Option ℕ) (rs : Received) (i : ℕ) → IsBegun begun at i → IsIn i (gaps_from left at begun rs)
begun_gap zero at begun rs i h = begun_closed begun at i h
begun_gap (suc left) at begun [] i h = begun_gap left (at + 1) (started_at begun at) [] i (begun_on begun at i h)
begun_gap (suc left) at begun (None ∷ rs) i h = begun_gap left (at + 1) (started_at begun at) rs i (begun_on begun at i h)
begun_gap (suc left) at begun (Some r ∷ rs) i h = in_left i (closed begun at) (gaps_from left (at + 1) None rs) (begun_closed begun at i h)

missing_gap : (left at : ℕ) (begun : Option ℕ) (rs : Received) (i k : ℕ) → BegunBefore begun at → k < left → i ≡ at + k → octet_at rs k ≡ None →
    IsIn i (gaps_from left at begun rs)
missing_gap zero at begun rs i k h below is none = absurd (omega arith)
missing_gap (suc left) at begun [] i zero h below is none = begun_gap left (at + 1) (started_at begun at) [] i (begun_here begun at i h (omega arith))
missing_gap (suc left) at begun [] i (suc k) h below is none = missing_gap left (at + 1) (started_at begun at) [] i k (still_before begun at h) (omega arith)
    (omega arith) refl
missing_gap (suc left) at begun (None ∷ rs) i zero h below is none = begun_gap left (at + 1) (started_at begun at) rs i (begun_here begun at i h (omega arith))
missing_gap (suc left) at begun (None ∷ rs) i (suc k) h below is none = missing_gap left (at + 1) (started_at begun at) rs i k (still_before begun at h)
    (omega arith) (omega arith) none
missing_gap (suc left) at begun (Some r ∷ rs) i zero h below is none = absurd cc
missing_gap (suc left) at begun (Some r ∷ rs) i (suc k) h below is none =
    in_right i (closed begun at) (gaps_from left (at + 1) None rs) (missing_gap left (at + 1) None rs i k tt (omega arith) (omega arith) none)

pub gaps_are_missing : GapsAreMissing
gaps_are_missing limit rs i = (
  (λ h. elim (gap_missing limit 0 None rs i h) [ inl b ↦ elim b [ ] | inr m ↦ (omega (arith, m.below, m.is), rw (all_of m) m.none) ]),
  (λ h. missing_gap limit 0 None rs i i tt h.0 (omega arith) h.1),
)
  where
    all_of : (m : IsMissing limit 0 rs i) → i ≡ m.k
    all_of m = omega (arith, m.is)

-- from the offset where a gap may begin
abbrev MayBegin : ℕ → Option ℕ → ℕ → Type 0
MayBegin from None at = from ≤ at
MayBegin from (Some start) at = (from ≤ start) × (start < at)

may_go_on : (from : ℕ) (begun : Option ℕ) (at : ℕ) → MayBegin from begun at → MayBegin from (started_at begun at) (at + 1)
may_go_on from None at h = (h, omega arith)
may_go_on from (Some start) at h = (h.0, omega (arith, h.1))

closed_runs : (from : ℕ) (begun : Option ℕ) (at : ℕ) → MayBegin from begun at → AreRuns from (closed begun at)
closed_runs from None at h = tt
closed_runs from (Some start) at h = (h.0, h.1, tt)

runs_from : (from : ℕ) (left at : ℕ) (begun : Option ℕ) (rs : Received) → MayBegin from begun at → AreRuns from (gaps_from left at begun rs)
runs_from from zero at begun rs h = closed_runs from begun at h
runs_from from (suc left) at begun [] h = runs_from from left (at + 1) (started_at begun at) [] (may_go_on from begun at h)
runs_from from (suc left) at begun (None ∷ rs) h = runs_from from left (at + 1) (started_at begun at) rs (may_go_on from begun at h)
runs_from from (suc left) at None (Some r ∷ rs) h = runs_from from left (at + 1) None rs (omega arith)
runs_from from (suc left) at (Some start) (Some r ∷ rs) h = (h.0, h.1, runs_from (at + 1) left (at + 1) None rs (omega arith))

pub gaps_are_runs : GapsAreRuns
gaps_are_runs limit rs = runs_from 0 limit 0 None rs (omega arith)

-- a gap is followed by a piece, or it is the last
gaps_count : (left at : ℕ) (start : ℕ) (rs : Received) →
    (length (gaps_from left at (Some start) rs) ≤ 1 + pieces_from false rs) × (length (gaps_from left at None rs) ≤ 1 + pieces_from true rs)
gaps_count zero at start rs = (omega arith, omega arith)
gaps_count (suc left) at start [] = ((gaps_count left (at + 1) start []).0, (gaps_count left (at + 1) at []).0)
gaps_count (suc left) at start (None ∷ rs) = ((gaps_count left (at + 1) start rs).0, (gaps_count left (at + 1) at rs).0)
gaps_count (suc left) at start (Some r ∷ rs) = let later = (gaps_count left (at + 1) at rs).1 in (omega arith, later)

pub fewer_pieces : (rs : Received) → pieces_from true rs ≤ pieces_from false rs
fewer_pieces [] = omega arith
fewer_pieces (None ∷ rs) = omega arith
fewer_pieces (Some r ∷ rs) = omega arith

pub few_gaps : FewGaps
few_gaps limit rs = omega (arith, (gaps_count limit 0 0 rs).1, fewer_pieces rs)
