-- What is true of received octets, their pieces and their gaps.
--     octet_at rs i             the octet received at an offset, if one was
--     FirstStays                an octet that comes again does not replace the first
--     GreatestEnd               what is kept reaches to the greatest end
--     IsIn i ranges             an offset is in one of the ranges
--     AreRuns from ranges       none is empty, and at least one offset is between any two, from `from` on
--     GapsAreMissing, GapsAreRuns, FewGaps      the gaps are the longest runs of what was not received, and one more
--                                               than the pieces at most
use Rattle.std.specs.Prelude.{◌≡◌, ⊤, ℕ, ◌+◌, max, ◌≤◌, ◌<◌, ◌↔◌, ◌⊎◌, List, [], ◌∷◌, length, Option, None, slice_index_or}
use Rattle.std.specs.Option.{option_or}
use Rattle.cfdp_transactions.specs.Received.{Received, kept_with, brought, pieces, gaps_below}

abbrev pub octet_at : Received → ℕ → Option ℕ
octet_at rs i = slice_index_or rs i None

abbrev pub FirstStays : Type 0
FirstStays = (rs : Received) (at : ℕ) (octets : List ℕ) (i : ℕ) → octet_at (kept_with rs at octets) i
    ≡ option_or (octet_at rs i) (brought at octets i)

abbrev pub GreatestEnd : Type 0
GreatestEnd = (rs : Received) (at : ℕ) (x : ℕ) (xs : List ℕ) → length (kept_with rs at (x ∷ xs))
    ≡ max (length rs) (at + length (x ∷ xs))

abbrev pub IsIn : ℕ → List (ℕ × ℕ) → Type 0
IsIn i [] = ⊥
IsIn i (r ∷ rs) = ((r.0 ≤ i) × (i < r.1)) ⊎ IsIn i rs

abbrev pub AreRuns : ℕ → List (ℕ × ℕ) → Type 0
AreRuns from [] = ⊤
AreRuns from (r ∷ rs) = (from ≤ r.0) × (r.0 < r.1) × AreRuns (r.1 + 1) rs

abbrev pub GapsAreMissing : Type 0
GapsAreMissing = (limit : ℕ) (rs : Received) (i : ℕ) → IsIn i (gaps_below limit rs)
    ↔ ((i < limit) × (octet_at rs i ≡ None))

abbrev pub GapsAreRuns : Type 0
GapsAreRuns = (limit : ℕ) (rs : Received) → AreRuns 0 (gaps_below limit rs)

abbrev pub FewGaps : Type 0
FewGaps = (limit : ℕ) (rs : Received) → length (gaps_below limit rs) ≤ 1 + pieces rs
