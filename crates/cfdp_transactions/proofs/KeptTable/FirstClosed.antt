-- The first slot that is closed in the budget is the first that no live entry has.
use Rattle.std.proofs.Common.{◌≡◌, ℕ, zero, suc, ◌+◌, ◌≤◌, ◌<◌, List, [], ◌∷◌, length, refl, arith}
use Rattle.std.specs.Prelude.{◌==◌, Bool, true, false, if◌then◌else◌, Some, None, slice_get, IsTrue, IsSome}
use Rattle.std.proofs.lemmas.Bool.{cases_eq, cases_lt, or_cases, and_parts, eqb-true}
use mathlib.Core.Logic.{inl, inr}
use Rattle.cfdp_actions.specs.Store.{Store}
use Rattle.cfdp_quota.specs.Budget.{IsOpen}
use Rattle.cfdp_transactions.specs.Entry.{is_live, Entry}
use Rattle.cfdp_transactions.specs.World.{World, has_slot, slot_from, free_slot}
use Rattle.cfdp_transactions.specs.Sound.{Sound}
use Rattle.cfdp_transactions.specs.code.Books.{IsBooked, world_of}
use Rattle.cfdp_transactions.specs.declared.books.Books.{Books}
use Rattle.cfdp_transactions.proofs.FreeSlots.{free_slot_is, free_vacant, taken}
use Rattle.cfdp_transactions.proofs.KeptTable.WorldOfTable.{length_in}

-- slots -------------------------------------------------------------------------------------

record IsTakenAt (t : List Entry) (slot : ℕ) : Type 0 where
  index : ℕ
  entry : Entry
  at : slice_get t index ≡ Some entry
  live : IsTrue (is_live entry.phase)
  same : entry.slot ≡ slot

taken_at : (t : List Entry) (slot : ℕ) → IsTrue (taken slot t) → IsTakenAt t slot
taken_at [] slot h = absurd cc
taken_at (e ∷ t) slot h = elim (or_cases (has_slot slot e) (taken slot t) h) [
  | inl here ↦ let both = and_parts (is_live e.phase) (e.slot == slot) here in
      record { index = 0; entry = e; at = refl; live = both.0; same = eqb-true e.slot slot both.1 }
  | inr later ↦ let following = taken_at t slot later in record {
    index = suc following.index;
    entry = following.entry;
    at = following.at;
    live = following.live;
    same = following.same;
  }
]

none_some : IsSome {T = ℕ} None → ⊥
none_some h = absurd cc

below_step : (more slot : ℕ) (t : List Entry) (s : ℕ) (b : Bool) → taken slot t ≡ b → slot ≤ s →
    (slot + 1 ≤ s → s < slot_from more (slot + 1) t → IsTrue (taken s t)) →
    s < (if b then slot_from more (slot + 1) t else slot) → IsTrue (taken s t)
below_step more slot t s true is from later below = elim (cases_eq s slot) [ inl q ↦ rw q is | inr ne ↦ later (omega arith) below ]
below_step more slot t s false is from later below = absurd (omega arith)

taken_below : (more slot : ℕ) (t : List Entry) (s : ℕ) → slot ≤ s → s < slot_from more slot t → IsTrue (taken s t)
taken_below zero slot t s from below = absurd (omega arith)
taken_below (suc more) slot t s from below = below_step more slot t s (taken slot t) refl from (taken_below more (slot + 1) t s) below

module _ (s : Store) (b : Books) (sound : Sound (world_of s b)) (booked : IsBooked s b) (few : length b.table < 64) where
  abbrev W : World
  W = world_of s b

  few_entries : length W.table < 64
  few_entries = omega (arith, few, length_in s.filestore b.table)

  taken_open : (slot : ℕ) → IsTrue (taken slot W.table) → IsOpen b.quota slot
  taken_open slot h = let e = taken_at W.table slot h in rw (← e.same, booked.budget.opened e.index e.entry e.at e.live) refl

  -- the first slot that is closed is the first that no live entry has
  pub first_free : (slot : ℕ) → (slot < 64 → IsOpen b.quota slot → ⊥) → ((before : ℕ) → before < slot → IsOpen b.quota before) → (slot ≡ free_slot W.table)
      × (slot < 64)
  first_free slot closed before =
      let free = free_slot_is W.table few_entries in
      let vacant = free_vacant W.table (free_slot W.table) free.free in
      let open_not : IsOpen b.quota (free_slot W.table) → ⊥ = λ open_there. none_some (rw (booked.budget.closed (free_slot W.table) vacant) at open_there) in
      elim (cases_lt slot (free_slot W.table)) [
        | inl early ↦ absurd (closed (omega (arith, free.below)) (taken_open slot (taken_below 64 0 W.table slot (omega arith) early)))
        | inr on ↦ elim (cases_lt (free_slot W.table) slot) [
          | inl late ↦ absurd (open_not (before (free_slot W.table) late))
          | inr exact ↦ (omega arith, omega (arith, free.below))
        ]
      ]
