-- No item of an entry that waits for octets is next.
use Rattle.std.specs.Prelude.{if◌then◌else◌, ◌==◌, slice_get}
use Rattle.std.proofs.Common.{◌≡◌, inl, inr, ℕ, suc, Bool, true, false, List, [], ◌∷◌, Some, refl, sym, ap, ◌∙◌}
use Rattle.std.proofs.lemmas.Bool.{cases_Bool, eq-eqb, eqb-true, both_ways}
use Rattle.std.proofs.lemmas.Option.{same_Some}
use Rattle.cfdp_status.specs.declared.transaction.TransactionId.{TransactionId}
use Rattle.cfdp_transactions.specs.Entry.{Entry, is_executing, is_awaiting}
use Rattle.cfdp_transactions.specs.Entry as Entries
use Rattle.cfdp_transactions.specs.declared.phase.Phase.{Phase}
use Rattle.cfdp_transactions.specs.declared.phase.Phase.TheVariants.{Receiving, Awaiting, Executing, Refused, Done, Ended}
use Rattle.cfdp_transactions.specs.Sound.{Sound}
use Rattle.cfdp_transactions.specs.World.{World, entry_of, index_of, next_runnable}
use Rattle.cfdp_transactions.proofs.Finding.{found_name as entry_name}
use Rattle.cfdp_transactions.proofs.Indexes.{get_same}

-- the entry whose item is next
record Runs (table : List Entry) (id : TransactionId) : Type 0 where
  index : ℕ
  entry : Entry
  there : slice_get table index ≡ Some entry
  named : Entries.name_of entry ≡ id
  runs : is_executing entry.phase ≡ true

runs_by : (e : Entry) (es : List Entry) (id : TransactionId) (b : Bool) → is_executing e.phase ≡ b → (next_runnable es ≡ Some id → Runs es id) →
    (if b then Some (Entries.name_of e) else next_runnable es) ≡ Some id → Runs (e ∷ es) id
runs_by e es id true runs later h = record { index = 0; entry = e; there = refl; named = same_Some (Entries.name_of e) id h; runs = runs }
runs_by e es id false runs later h = let r = later h in record { index = suc r.index; entry = r.entry; there = r.there; named = r.named; runs = r.runs }

runs_of : (table : List Entry) (id : TransactionId) → next_runnable table ≡ Some id → Runs table id
runs_of [] id h = absurd cc
runs_of (e ∷ es) id h = runs_by e es id (is_executing e.phase) refl (runs_of es id) h

never_both : (phase : Phase) → is_executing phase ≡ true → is_awaiting phase ≡ true → ⊥
never_both Receiving x a = absurd cc
never_both (Awaiting checks) x a = absurd cc
never_both (Executing n) x a = absurd cc
never_both Refused x a = absurd cc
never_both Done x a = absurd cc
never_both (Ended condition) x a = absurd cc

-- no item of an entry that waits for octets is next
pub none_runs : (W : World) (id : TransactionId) (entry : Entry) → Sound W → entry_of W id ≡ Some entry → is_awaiting entry.phase ≡ true →
    next_runnable W.table ≡ Some id → ⊥
none_runs W id entry sound here awaits h =
    let r = runs_of W.table id h in
    let k = index_of W id in
    elim (cases_Bool (r.index == k)) [
      | inl same ↦
          let it : r.entry ≡ entry = get_same W.table r.index k r.entry entry r.there here (eqb-true r.index k same) in
          never_both entry.phase (ap (λ (x : Entry). is_executing x.phase) (sym it) ∙ r.runs) awaits
      | inr other ↦
          sound.names r.index k r.entry entry r.there here (λ e. both_ways (r.index == k) other (eq-eqb r.index k e))
          (r.named ∙ sym (entry_name W.table id entry here))
    ]
