-- Where fewer than 64 transactions are known, the slot that a new one gets is vacant.
use Rattle.std.proofs.Common.{◌≡◌, ◌≢◌, ℕ, zero, suc, ◌+◌, ◌<◌, ◌≤◌, List, [], ◌∷◌, length, ◌⊎◌, refl, ap, sym, ◌∙◌, arith}
use Rattle.std.specs.Prelude.{Bool, true, false, ◌||◌, IsTrue, IsFalse, if◌then◌else◌}
use Rattle.std.specs.List.{list_any}
use Rattle.std.proofs.lemmas.Bool.{both_ways, cases_eq, and_parts, and_from, eqb-true, eq-eqb, or_parts}
use mathlib.Core.Logic.{inl, inr}
use Rattle.cfdp_transactions.specs.Entry.{Entry}
use Rattle.cfdp_transactions.specs.World.{has_slot, slot_from, free_slot}
use Rattle.cfdp_transactions.specs.Sound.{IsVacant}

abbrev pub taken : ℕ → List Entry → Bool
taken slot t = list_any (has_slot slot) t

-- without the first entry that has the slot
abbrev less : ℕ → List Entry → List Entry
less slot [] = []
less slot (e ∷ t) = if has_slot slot e then t else e ∷ less slot t

length_step : (e : Entry) (t : List Entry) (slot : ℕ) (b : Bool) → (IsTrue (taken slot t) → suc (length (less slot t)) ≡ length t) →
    IsTrue (b || taken slot t) → suc (length (if b then t else e ∷ less slot t)) ≡ suc (length t)
length_step e t slot true later h = refl
length_step e t slot false later h = ap suc (later h)

length-less : (t : List Entry) (slot : ℕ) → IsTrue (taken slot t) → suc (length (less slot t)) ≡ length t
length-less [] slot h = absurd cc
length-less (e ∷ t) slot h = length_step e t slot (has_slot slot e) (length-less t slot) h

-- one entry has one slot
one_slot : (e : Entry) (slot other : ℕ) → other ≢ slot → IsTrue (has_slot slot e) → IsTrue (has_slot other e) → ⊥
one_slot e slot other ne h g = ne (sym (eqb-true e.slot other (and_parts _ _ g).1) ∙ eqb-true e.slot slot (and_parts _ _ h).1)

less_step : (e : Entry) (t : List Entry) (slot other : ℕ) (b c : Bool) → has_slot slot e ≡ b → has_slot other e ≡ c → other ≢ slot →
    (IsTrue (taken other t) → IsTrue (taken other (less slot t))) → IsTrue (c || taken other t) → IsTrue (taken other (if b then t else e ∷ less slot t))
less_step e t slot other true true hb hc ne later h = absurd (one_slot e slot other ne hb hc)
less_step e t slot other true false hb hc ne later h = h
less_step e t slot other false true hb hc ne later h = rw hc refl
less_step e t slot other false false hb hc ne later h = rw hc (later h)

taken-less : (t : List Entry) (slot other : ℕ) → other ≢ slot → IsTrue (taken other t) → IsTrue (taken other (less slot t))
taken-less [] slot other ne h = h
taken-less (e ∷ t) slot other ne h = less_step e t slot other (has_slot slot e) (has_slot other e) refl refl ne (taken-less t slot other ne) h

-- this many slots, this many entries
taken_count : (n : ℕ) (t : List Entry) → ((slot : ℕ) → slot < n → IsTrue (taken slot t)) → n ≤ length t
taken_count zero t h = omega arith
taken_count (suc n) t h =
    let fewer = taken_count n (less n t) (λ slot lt. taken-less t n slot (omega arith) (h slot (omega arith))) in
    omega (arith, length-less t n (h n (omega arith)))

pub record IsFree (t : List Entry) (slot limit : ℕ) : Type 0 where
  pub free : IsFalse (taken slot t)
  pub below : slot < limit

search_step : (more slot : ℕ) (t : List Entry) (b : Bool) → taken slot t ≡ b →
    (IsFree t (slot_from more (slot + 1) t) (slot + 1 + more) ⊎ ((s : ℕ) → slot + 1 ≤ s → s < slot + 1 + more → IsTrue (taken s t))) →
    IsFree t (if b then slot_from more (slot + 1) t else slot) (slot + suc more) ⊎ ((s : ℕ) → slot ≤ s → s < slot + suc more → IsTrue (taken s t))
search_step more slot t false is later = inl (record { free = is; below = omega arith })
search_step more slot t true is (inl found) = inl (record { free = found.free; below = omega (arith, found.below) })
search_step more slot t true is (inr all) = inr (λ s from below. elim (cases_eq s slot) [ inl q ↦ rw q is | inr ne ↦ all s (omega arith) (omega arith) ])

searched : (more slot : ℕ) (t : List Entry) → IsFree t (slot_from more slot t) (slot + more) ⊎ ((s : ℕ) → slot ≤ s → s < slot + more → IsTrue (taken s t))
searched zero slot t = inr (λ s from below. absurd (omega arith))
searched (suc more) slot t = search_step more slot t (taken slot t) refl (searched more (slot + 1) t)

pub free_slot_is : (t : List Entry) → length t < 64 → IsFree t (free_slot t) 64
free_slot_is t few = elim (searched 64 0 t) [
  | inl found ↦ found
  | inr all ↦
      absurd (let n = taken_count 64 t (λ s below. all s (omega arith) (omega arith)) in omega arith)
]

pub free_vacant : (t : List Entry) (slot : ℕ) → IsFalse (taken slot t) → IsVacant t slot
free_vacant [] slot h k e at live q = absurd cc
free_vacant (d ∷ t) slot h zero e at live q =
    let same : d ≡ e = cc in
    both_ways (has_slot slot d) (or_parts _ _ h).0 (rw same (and_from _ _ live (eq-eqb e.slot slot q)))
free_vacant (d ∷ t) slot h (suc k) e at live q = free_vacant t slot (or_parts _ _ h).1 k e at live q
