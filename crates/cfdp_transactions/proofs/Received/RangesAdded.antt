-- The ranges once octets came: where they end, that they are pieces of what is staged then, and how many they are.
use Rattle.std.proofs.Common.{◌≡◌, ℕ, ◌+◌, ◌-◌, max, min, ◌≤◌, ◌<◌, List, [], ◌∷◌, length, refl, ap, sym, ◌∙◌, arith, get_or}
use Rattle.std.specs.Prelude.{nat_lt, IsTrue, IsFalse, Option, Some, None, unwrap_or}
use Rattle.std.specs.Option.{option_or}
use Rattle.std.proofs.lemmas.Bool.{cond_both, cases_lt, ltb-true}
use Rattle.std.proofs.lemmas.List.{get_or-map}
use Rattle.std.proofs.lemmas.Option.{slice_get-get_or}
use mathlib.Core.Logic.{inl, inr}
use Rattle.cfdp_transactions.specs.Received.{Received, kept_with, brought, staged_of, pieces}
use Rattle.cfdp_transactions.specs.ReceivedLaws.{octet_at, AreRuns}
use Rattle.cfdp_transactions.specs.Pieces.{Range, Ranges, is_in, received_in, with_range}
use Rattle.cfdp_transactions.specs.code.Pieces.{end_of}
use Rattle.cfdp_transactions.specs.PieceLaws.{AreWithin, ArePieces, AreWritten}
use Rattle.cfdp_transactions.proofs.Received.OctetsAndGaps.{first_stays}
use Rattle.cfdp_transactions.proofs.Received.PieceRanges.{pieces_are_ranges}
use Rattle.cfdp_transactions.proofs.Soundness.Turning.{length-staged_of}
use Rattle.cfdp_transactions.proofs.Received.Writing.{length-received, received_at, none_past_end, brought_there, kept_length, range_is_added, ranges_keep}

-- where they end ------------------------------------------------------------------------

-- the ranges in order end no sooner than the first of them
end_from : (from : ℕ) (r : Range) (rs : Ranges) → AreRuns from (r ∷ rs) → r.1 ≤ end_of (r ∷ rs)
end_from from r [] runs = omega arith
end_from from r (q ∷ rs) runs = omega (arith, runs.2.0, runs.2.1, end_from (r.1 + 1) q rs runs.2)

end_one : (r : Range) (rs : Ranges) → 0 < length rs → end_of (r ∷ rs) ≡ end_of rs
end_one r [] h = absurd (omega arith)
end_one r (q ∷ rs) h = refl

some_added : (a b : ℕ) (rs : Ranges) → 0 < length (with_range a b rs)
some_added a b [] = omega arith
some_added a b (r ∷ rs) =
    cond_both (nat_lt r.1 a) _ _ (λ (out : Ranges). 0 < length out) (λ _. omega arith)
    (λ _. cond_both (nat_lt b r.0) _ _ (λ (out : Ranges). 0 < length out) (λ _. omega arith) (λ _. some_added (min a r.0) (max b r.1) rs))

-- after a range that ends before them, or is one of them
end_kept : (from b : ℕ) (r : Range) (rs : Ranges) → AreRuns from (r ∷ rs) → r.1 ≤ b → max (end_of rs) b ≡ max (end_of (r ∷ rs)) b
end_kept from b r [] runs h = omega arith
end_kept from b r (q ∷ rs) runs h = refl

end_joined : (from b : ℕ) (r : Range) (rs : Ranges) → AreRuns from (r ∷ rs) → max (end_of rs) (max b r.1) ≡ max (end_of (r ∷ rs)) b
end_joined from b r [] runs = omega arith
end_joined from b r (q ∷ rs) runs = omega (arith, end_from from r (q ∷ rs) runs)

pub end_added : (from a b : ℕ) (rs : Ranges) → a < b → AreRuns from rs → end_of (with_range a b rs) ≡ max (end_of rs) b
end_added from a b [] ab runs = omega arith
end_added from a b (r ∷ rs) ab runs =
    cond_both (nat_lt r.1 a) _ _ (λ (out : Ranges). end_of out ≡ max (end_of (r ∷ rs)) b)
    (λ early. end_one r (with_range a b rs) (some_added a b rs) ∙ end_added (r.1 + 1) a b rs ab runs.2
    ∙ end_kept from b r rs runs (let h = ltb-true _ _ early in omega arith))
    (λ _. cond_both (nat_lt b r.0) _ _ (λ (out : Ranges). end_of out ≡ max (end_of (r ∷ rs)) b)
    (λ late. let h = ltb-true _ _ late in omega (arith, runs.1, end_from from r rs runs))
    (λ _. end_added (r.1 + 1) (min a r.0) (max b r.1) rs (omega arith) runs.2 ∙ end_joined from b r rs runs))

-- they are within what is staged -----------------------------------------------------------

pub within_added : (a b m n : ℕ) (rs : Ranges) → AreWithin m rs → m ≤ n → b ≤ n → AreWithin n (with_range a b rs)
within_added a b m n [] within mn bn = (bn, tt)
within_added a b m n (r ∷ rs) within mn bn =
    cond_both (nat_lt r.1 a) _ _ (AreWithin n)
    (λ _. (omega (arith, within.0), within_added a b m n rs within.1 mn bn))
    (λ _. cond_both (nat_lt b r.0) _ _ (AreWithin n)
    (λ _. (bn, (omega (arith, within.0), longer rs within.1)))
    (λ _. within_added (min a r.0) (max b r.1) m n rs within.1 mn (omega (arith, within.0))))
  where
    longer : (qs : Ranges) → AreWithin m qs → AreWithin n qs
    longer [] h = tt
    longer (q ∷ qs) h = (omega (arith, h.0), longer qs h.1)

pub pieces_added : (ranges : Ranges) (xs ys : List ℕ) (at : ℕ) (octets : List ℕ) → ArePieces ranges xs → 0 < length octets → length ys
    ≡ max (length xs) (at + length octets) →
    ArePieces (with_range at (at + length octets) ranges) ys
pieces_added ranges xs ys at octets p some long = record {
  runs = (range_is_added at (at + length octets) ranges (omega arith) p.runs).0;
  within = within_added at (at + length octets) (length xs) (length ys) ranges p.within (omega arith) (omega arith);
}

-- how many there are -----------------------------------------------------------------------

module _ (ranges : Ranges) (xs : List ℕ) (at : ℕ) (octets : List ℕ) (p : ArePieces ranges xs) (some : 0 < length octets) where
  abbrev rs : Received
  rs = kept_with (received_in ranges xs) at octets

  abbrev ys : List ℕ
  ys = staged_of rs

  rs_long : length rs ≡ max (length xs) (at + length octets)
  rs_long = kept_length (received_in ranges xs) at octets some ∙ ap (λ (n : ℕ). max n (at + length octets)) (length-received 0 ranges xs)

  ys_at : (i : ℕ) → i < length rs → get_or ys i 0 ≡ unwrap_or (option_or (octet_at (received_in ranges xs) i) (brought at octets i)) 0
  ys_at i below = get_or-map (λ (r : Option ℕ). unwrap_or r 0) rs i None 0 below
      ∙ ap (λ (r : Option ℕ). unwrap_or r 0) (first_stays (received_in ranges xs) at octets i)

  was_there : (i : ℕ) → i < length xs → IsTrue (is_in i ranges) → octet_at (received_in ranges xs) i ≡ Some (get_or xs i 0)
  was_there i below old = received_at 0 ranges xs i below ∙ (let z : 0 + i ≡ i = omega arith in rw (z, old) refl)

  was_missing : (i : ℕ) → IsFalse (is_in i ranges) → octet_at (received_in ranges xs) i ≡ None
  was_missing i new = elim (cases_lt i (length xs)) [
    | inl inside ↦ received_at 0 ranges xs i inside ∙ (let z : 0 + i ≡ i = omega arith in rw (z, new) refl)
    | inr past ↦ none_past_end (received_in ranges xs) i (omega (arith, length-received 0 ranges xs))
  ]

  came : (j : ℕ) → j < length octets → brought at octets (at + j) ≡ Some (get_or octets j 0)
  came j below = let z : (at + j) - at ≡ j = omega arith in brought_there at octets (at + j) (omega arith) ∙ (rw z (slice_get-get_or octets j 0 below))

  ys_long : length ys ≡ max (length xs) (at + length octets)
  ys_long = length-staged_of rs ∙ rs_long

  are_written : AreWritten ranges xs at octets ys
  are_written = record {
    long = ys_long;
    kept = λ i below old. ys_at i (omega (arith, rs_long)) ∙ rw (was_there i below old) refl;
    written = λ j below new. ys_at (at + j) (omega (arith, rs_long)) ∙ rw (was_missing (at + j) new, came j below) refl;
  }

  pub pieces_kept : pieces rs ≡ length (with_range at (at + length octets) ranges)
  pieces_kept = ap pieces (sym (ranges_keep ranges xs at octets ys p some are_written))
      ∙ pieces_are_ranges (with_range at (at + length octets) ranges) ys (pieces_added ranges xs ys at octets p some ys_long)
