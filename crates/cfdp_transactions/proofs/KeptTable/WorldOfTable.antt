-- The program's entries, and the world that they and the store are.
use Rattle.std.proofs.Common.{◌≡◌, ◌≢◌, ℕ, zero, suc, ◌≤◌, List, [], ◌∷◌, ◌++◌, length, map, drop, refl, ap, arith}
use Rattle.std.specs.Prelude.{Bool, true, false, Option, Some, None, slice_get, slice_set, remove, option_map, IsTrue}
use Rattle.cfdp_status.specs.declared.transaction.TransactionId.{TransactionId}
use Rattle.cfdp_actions.specs.Filestore.{Filestore, staged_in}
use Rattle.cfdp_transactions.specs.Received.{Received}
use Rattle.cfdp_transactions.specs.Entry.{Phase, Receiving, Awaiting, Executing, Refused, Done, Ended, is_live, name_of, Entry}
use Rattle.cfdp_transactions.specs.World.{index_in, next_runnable, next_outcome}
use Rattle.cfdp_transactions.specs.code.TableEntries.{TableEntryFields, received_by, entry_in, table_of, kept_name, kept_index, first_executing, first_entry_over}

pub index_among : (F : Filestore) (id : TransactionId) (table_entries : List TableEntryFields)
    → index_in id (table_of F table_entries) ≡ kept_index id table_entries
index_among F id [] = refl
index_among F id (r ∷ table_entries) = rw (index_among F id table_entries) refl

pub get_in : (F : Filestore) (table_entries : List TableEntryFields) (k : ℕ)
    → slice_get (table_of F table_entries) k ≡ option_map (entry_in F) (slice_get table_entries k)
get_in F [] k = refl
get_in F (r ∷ table_entries) zero = refl
get_in F (r ∷ table_entries) (suc k) = get_in F table_entries k

pub table_entry_at : (F : Filestore) (table_entries : List TableEntryFields) (k : ℕ) (r : TableEntryFields) → slice_get table_entries k ≡ Some r
    → slice_get (table_of F table_entries) k ≡ Some
    (entry_in F r)
table_entry_at F table_entries k r at = rw (get_in F table_entries k, at) refl

pub length_in : (F : Filestore) (table_entries : List TableEntryFields) → length (table_of F table_entries) ≡ length table_entries
length_in F [] = refl
length_in F (r ∷ table_entries) = ap suc (length_in F table_entries)

-- the filestore changes elsewhere ----------------------------------------------------

same_received : (F G : Filestore) (r : TableEntryFields) (live : Bool) → is_live r.phase ≡ live →
    (IsTrue (is_live r.phase) → staged_in G r.slot ≡ staged_in F r.slot)
    →
    received_by G r ≡ received_by F r
same_received F G r true is same = rw (is, same is) refl
same_received F G r false is same = rw is refl

pub same_entry : (F G : Filestore) (r : TableEntryFields) → (IsTrue (is_live r.phase) → staged_in G r.slot ≡ staged_in F r.slot) → entry_in G r ≡ entry_in F r
same_entry F G r same = let received = same_received F G r (is_live r.phase) refl same in
    ap (λ (xs : Received). record (entry_in F r) { received = xs }) received

pub same_table : (F G : Filestore) (table_entries : List TableEntryFields)
    → ((j : ℕ) (r : TableEntryFields) → slice_get table_entries j ≡ Some r → IsTrue (is_live r.phase) →
    staged_in G r.slot
    ≡ staged_in F r.slot) → table_of G table_entries ≡ table_of F table_entries
same_table F G [] same = refl
same_table F G (r ∷ table_entries) same = rw (same_entry F G r (same 0 r refl), same_table F G table_entries (λ j q at. same (suc j) q at)) refl

pub set_in : (F G : Filestore) (table_entries : List TableEntryFields) (k : ℕ) (new : TableEntryFields) →
    ((j : ℕ) (r : TableEntryFields) → slice_get table_entries j ≡ Some r → j ≢ k → IsTrue (is_live r.phase) → staged_in G r.slot ≡ staged_in F r.slot) →
    table_of G (slice_set table_entries k new) ≡ slice_set (table_of F table_entries) k (entry_in G new)
set_in F G [] k new same = refl
set_in F G (r ∷ table_entries) zero new same = rw (same_table F G table_entries (λ j q at. same (suc j) q at (λ n. absurd (omega arith)))) refl
set_in F G (r ∷ table_entries) (suc k) new same =
    rw (
      same_entry F G r (same 0 r refl (λ n. absurd (omega arith))),
      set_in F G table_entries k new
          (λ j q at ne. same (suc j) q at (λ n. ne (omega arith))),
    ) refl

pub append_in : (F : Filestore) (table_entries : List TableEntryFields) (new : TableEntryFields)
    → table_of F (table_entries ++ new ∷ []) ≡ table_of F table_entries ++ entry_in F new ∷ []
append_in F [] new = refl
append_in F (r ∷ table_entries) new = rw (append_in F table_entries new) refl

pub remove_in : (F : Filestore) (table_entries : List TableEntryFields) (k : ℕ) → table_of F (remove table_entries k) ≡ remove (table_of F table_entries) k
remove_in F [] zero = refl
remove_in F [] (suc k) = refl
remove_in F (r ∷ table_entries) zero = refl
remove_in F (r ∷ table_entries) (suc k) = ap (λ (t : List Entry). entry_in F r ∷ t) (remove_in F table_entries k)

-- the first one in Executing -----------------------------------------------------------

pub executing_here : (table_entries : List TableEntryFields) (k : ℕ) (r : TableEntryFields) (n : ℕ) → slice_get table_entries k ≡ Some r
    → r.phase ≡ Executing n → first_executing
    (drop k table_entries)
    ≡ Some (kept_name r)
executing_here [] k r n at phase = absurd cc
executing_here (q ∷ table_entries) zero r n at phase = let same : q ≡ r = cc in rw (same, phase) refl
executing_here (q ∷ table_entries) (suc k) r n at phase = executing_here table_entries k r n at phase

passed : (r : TableEntryFields) (table_entries : List TableEntryFields) (phase : Phase) → r.phase ≡ phase → ((n : ℕ) → phase ≡ Executing n → ⊥)
    → first_executing
    (r ∷ table_entries)
    ≡ first_executing table_entries
passed r table_entries Receiving is not = rw is refl
passed r table_entries (Awaiting checks) is not = rw is refl
passed r table_entries (Executing n) is not = absurd (not n refl)
passed r table_entries Refused is not = rw is refl
passed r table_entries Done is not = rw is refl
passed r table_entries (Ended condition) is not = rw is refl

pub executing_later : (table_entries : List TableEntryFields) (k : ℕ) (r : TableEntryFields) → slice_get table_entries k ≡ Some r
    → ((n : ℕ) → r.phase ≡ Executing n → ⊥) →
    first_executing
    (drop k table_entries)
    ≡ first_executing (drop (suc k) table_entries)
executing_later [] k r at not = absurd cc
executing_later (q ∷ table_entries) zero r at not = let same : q ≡ r = cc in rw same (passed r table_entries r.phase refl not)
executing_later (q ∷ table_entries) (suc k) r at not = executing_later table_entries k r at not

pub executing_none : (table_entries : List TableEntryFields) (k : ℕ) → length table_entries ≤ k → first_executing (drop k table_entries) ≡ None
executing_none [] zero h = refl
executing_none [] (suc k) h = refl
executing_none (r ∷ table_entries) zero h = absurd (omega arith)
executing_none (r ∷ table_entries) (suc k) h = executing_none table_entries k (omega arith)

-- the first one that is over -----------------------------------------------------------

pub over_here : (table_entries : List TableEntryFields) (k : ℕ) (r : TableEntryFields) → slice_get table_entries k ≡ Some r → is_live r.phase ≡ false
    → first_entry_over
    (drop k table_entries) ≡ Some
    (kept_name r)
over_here [] k r at over = absurd cc
over_here (q ∷ table_entries) zero r at over = let same : q ≡ r = cc in rw (same, over) refl
over_here (q ∷ table_entries) (suc k) r at over = over_here table_entries k r at over

pub over_later : (table_entries : List TableEntryFields) (k : ℕ) (r : TableEntryFields) → slice_get table_entries k ≡ Some r → is_live r.phase ≡ true
    → first_entry_over
    (drop k table_entries)
    ≡ first_entry_over (drop (suc k) table_entries)
over_later [] k r at live = absurd cc
over_later (q ∷ table_entries) zero r at live = let same : q ≡ r = cc in rw (same, live) refl
over_later (q ∷ table_entries) (suc k) r at live = over_later table_entries k r at live

pub over_none : (table_entries : List TableEntryFields) (k : ℕ) → length table_entries ≤ k → first_entry_over (drop k table_entries) ≡ None
over_none [] zero h = refl
over_none [] (suc k) h = refl
over_none (r ∷ table_entries) zero h = absurd (omega arith)
over_none (r ∷ table_entries) (suc k) h = over_none table_entries k (omega arith)

pub over_in : (F : Filestore) (table_entries : List TableEntryFields) → next_outcome (table_of F table_entries) ≡ first_entry_over table_entries
over_in F [] = refl
over_in F (r ∷ table_entries) = rw (over_in F table_entries) refl

pub names_in : (F : Filestore) (table_entries : List TableEntryFields) → map name_of (table_of F table_entries) ≡ map kept_name table_entries
names_in F [] = refl
names_in F (r ∷ table_entries) = rw (names_in F table_entries) refl

-- what is read by name -----------------------------------------------------------------

twice : {X : Type 0} (f : Entry → X) (F : Filestore) (o : Option TableEntryFields) → option_map f (option_map (entry_in F) o) ≡ option_map
    (λ r. f (entry_in F r)) o
twice f F None = refl
twice f F (Some r) = refl

pub runnable_in : (F : Filestore) (table_entries : List TableEntryFields) → next_runnable (table_of F table_entries) ≡ first_executing table_entries
runnable_in F [] = refl
runnable_in F (r ∷ table_entries) = rw (runnable_in F table_entries) refl

pub read_in : {X : Type 0} (f : Entry → X) (F : Filestore) (id : TransactionId) (table_entries : List TableEntryFields) →
    option_map f (slice_get (table_of F table_entries) (index_in id (table_of F table_entries)))
    ≡ option_map (λ r. f (entry_in F r)) (slice_get table_entries (kept_index id table_entries))
read_in f F id table_entries = rw (index_among F id table_entries, get_in F table_entries (kept_index id table_entries))
    (twice f F (slice_get table_entries (kept_index id table_entries)))
