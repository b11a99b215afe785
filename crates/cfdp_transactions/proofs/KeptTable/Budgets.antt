-- The entries of a budget after blocks were taken and given back, and after a slot was closed.
use Rattle.std.proofs.Common.{◌≡◌, ◌≢◌, ℕ, zero, suc, ◌+◌, ◌-◌, ◌<◌, List, [], ◌∷◌, length, refl, ◌∙◌, arith, get_or-set_same, get_or-set_other}
use Rattle.std.specs.Prelude.{Option, Some, None, slice_set, slice_index_or}
use Rattle.cfdp_quota.specs.Budget.{Budget, entry_at, reserve_at, spare, giving, taking, closing, reserving}

inside : (xs : List (Option ℕ)) (i m : ℕ) → slice_index_or xs i None ≡ Some m → i < length xs
inside [] i m h = absurd cc
inside (x ∷ xs) zero m h = omega arith
inside (x ∷ xs) (suc i) m h = omega (arith, inside xs i m h)

written : (xs : List (Option ℕ)) (i : ℕ) (x : Option ℕ) → i < length xs → slice_index_or (slice_set xs i x) i None ≡ x
written xs i x h = get_or-set_same xs i x None h

module _ (q : Budget) (slot m : ℕ) (opened : entry_at q slot ≡ Some m) where
  within : slot < length q.reserves
  within = inside q.reserves slot m opened

  pub given_here : (n : ℕ) → entry_at (giving q slot n) slot ≡ Some (m + n)
  given_here n = written q.reserves slot (Some (reserve_at q slot + n)) within ∙ rw opened refl

  pub taken_here : (n : ℕ) → entry_at (taking q slot n) slot ≡ Some (m - n)
  taken_here n = written q.reserves slot _ within ∙ rw opened refl

  pub closed_here : entry_at (closing q slot) slot ≡ None
  closed_here = written q.reserves slot None within

  pub reserve_is : reserve_at q slot ≡ m
  reserve_is = rw opened refl

pub given_elsewhere : (q : Budget) (slot n other : ℕ) → other ≢ slot → entry_at (giving q slot n) other ≡ entry_at q other
given_elsewhere q slot n other ne = get_or-set_other q.reserves slot other (Some (reserve_at q slot + n)) None ne

pub taken_elsewhere : (q : Budget) (slot n other : ℕ) → other ≢ slot → entry_at (taking q slot n) other ≡ entry_at q other
taken_elsewhere q slot n other ne = get_or-set_other q.reserves slot other _ None ne

pub closed_elsewhere : (q : Budget) (slot other : ℕ) → other ≢ slot → entry_at (closing q slot) other ≡ entry_at q other
closed_elsewhere q slot other ne = get_or-set_other q.reserves slot other None None ne

pub reserved_elsewhere : (q : Budget) (slot n other : ℕ) → other ≢ slot → entry_at (reserving q slot n) other ≡ entry_at q other
reserved_elsewhere q slot n other ne = get_or-set_other q.reserves slot other (Some n) None ne
