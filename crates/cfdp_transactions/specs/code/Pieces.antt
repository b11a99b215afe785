-- What only the proofs of the code need of `Pieces`.
--     with_pending, pending_count  the ranges with one that is pending, if any is;  how many are pending
--     is_all size ranges        they hold all offsets below the size, and none past it
--     end_of ranges             the greatest end: 0 where there are none
--     IsNextGap, HasAll         the first of the offsets from a to b that are missing, as one run;  none is missing
use Rattle.std.specs.Prelude.{◌≡◌, ◌⊎◌, ◌≤◌, ◌<◌, ◌==◌, IsTrue, IsFalse, ℕ, Bool, false, ◌&&◌, [], ◌∷◌, Option, Some, None}
use Rattle.cfdp_transactions.specs.Pieces.{Range, Ranges, is_in, with_range}

-- the ranges, with the pending one that was not put among them yet
abbrev pub with_pending : Option Range → Ranges → Ranges
with_pending None rs = rs
with_pending (Some r) rs = with_range r.0 r.1 rs

abbrev pub pending_count : Option Range → ℕ
pending_count None = 0
pending_count (Some r) = 1

-- everything below the size, and nothing past it
abbrev pub is_all : ℕ → Ranges → Bool
is_all size [] = size == 0
is_all size (r ∷ []) = (r.0 == 0) && (r.1 == size)
is_all size (r ∷ s ∷ rs) = false

-- the greatest end
abbrev pub end_of : Ranges → ℕ
end_of [] = 0
end_of (r ∷ []) = r.1
end_of (r ∷ s ∷ rs) = end_of (s ∷ rs)

-- the first longest run of offsets from a to b that are in none of the ranges: g.0 to g.1
pub record IsNextGap (ranges : Ranges) (a b : ℕ) (g : ℕ × ℕ) : Type 0 where
  pub from : a ≤ g.0
  pub some : g.0 < g.1
  pub to : g.1 ≤ b
  pub before : (i : ℕ) → a ≤ i → i < g.0 → IsTrue (is_in i ranges)
  pub missing : (i : ℕ) → g.0 ≤ i → i < g.1 → IsFalse (is_in i ranges)
  pub longest : g.1 ≡ b ⊎ IsTrue (is_in g.1 ranges)

-- all of them are in the ranges
abbrev pub HasAll : Ranges → ℕ → ℕ → Type 0
HasAll ranges a b = (i : ℕ) → a ≤ i → i < b → IsTrue (is_in i ranges)
