-- Received octets: the first stays, and they reach to the greatest end.
use Rattle.std.proofs.Common.{ℕ, zero, suc, ◌+◌, ◌≤◌, List, [], ◌∷◌, length, arith}
use Rattle.std.specs.Prelude.{Some, None}
use Rattle.cfdp_transactions.specs.Received.{Received, kept_with}

pub kept_grows : (rs : Received) (at : ℕ) (octets : List ℕ) → length rs ≤ length (kept_with rs at octets)
kept_grows rs at [] = omega arith
kept_grows [] zero (x ∷ xs) = omega arith
kept_grows [] (suc at) (x ∷ xs) = omega arith
kept_grows (None ∷ rs) zero (x ∷ xs) = omega (arith, kept_grows rs zero xs)
kept_grows (Some r ∷ rs) zero (x ∷ xs) = omega (arith, kept_grows rs zero xs)
kept_grows (r ∷ rs) (suc at) (x ∷ xs) = omega (arith, kept_grows rs at (x ∷ xs))

-- no further than the limit, where the octets end below it
pub kept_within : (rs : Received) (at : ℕ) (octets : List ℕ) (limit : ℕ) → length rs ≤ limit → at + length octets ≤ limit →
    length (kept_with rs at octets) ≤ limit
kept_within rs at [] limit h e = h
kept_within [] zero (x ∷ xs) zero h e = absurd (omega arith)
kept_within [] zero (x ∷ xs) (suc limit) h e = omega (arith, kept_within [] zero xs limit (omega arith) (omega arith))
kept_within [] (suc at) (x ∷ xs) zero h e = absurd (omega arith)
kept_within [] (suc at) (x ∷ xs) (suc limit) h e = omega (arith, kept_within [] at (x ∷ xs) limit (omega arith) (omega arith))
kept_within (None ∷ rs) zero (x ∷ xs) zero h e = absurd (omega arith)
kept_within (None ∷ rs) zero (x ∷ xs) (suc limit) h e = omega (arith, kept_within rs zero xs limit (omega arith) (omega arith))
kept_within (Some r ∷ rs) zero (x ∷ xs) zero h e = absurd (omega arith)
kept_within (Some r ∷ rs) zero (x ∷ xs) (suc limit) h e = omega (arith, kept_within rs zero xs limit (omega arith) (omega arith))
kept_within (r ∷ rs) (suc at) (x ∷ xs) zero h e = absurd (omega arith)
kept_within (r ∷ rs) (suc at) (x ∷ xs) (suc limit) h e = omega (arith, kept_within rs at (x ∷ xs) limit (omega arith) (omega arith))
