-- How the program's table changes.
--     AreNamed entries          each is kept under its own name
--     ChangesAt old new k f     the entry at k is what f makes of it, and nothing else changes
--     CanAdvance r install ticks      the entry has a next item that may take this many ticks
--     CanStore r start end      there is room for one more range of the entry's octets
use Rattle.std.specs.Prelude.{◌≡◌, ℕ, ◌+◌, ◌≤◌, ◌<◌, length, pos, negsuc, ◌≤ℤ◌, Bool, false, List, Some, slice_get, slice_set}
use Rattle.std.specs.List.{AllByRecursion}
use Rattle.cfdp_status.specs.declared.transaction.TransactionId.{TransactionId}
use Rattle.cfdp_transactions.specs.Pieces.{with_range}
use Rattle.cfdp_transactions.specs.code.TableEntries.{TableEntryFields, kept_name}

abbrev pub AreNamed : List (TransactionId × TableEntryFields) → Type 0
AreNamed = AllByRecursion (λ e. e.0 ≡ kept_name e.1)

abbrev pub ChangesAt : List TableEntryFields → List TableEntryFields → ℕ → (TableEntryFields → TableEntryFields)
    → Type 0
ChangesAt old new k f = (r : TableEntryFields) → slice_get old k ≡ Some r → new ≡ slice_set old k (f r)

-- this many ticks may be counted, and its counters are within their ranges
pub record CanAdvance (r : TableEntryFields) (install : Bool) (ticks : ℕ) : Type 0 where
  pub performed : install ≡ false → r.performed < 255
  pub steps : r.steps_spent + (1 + ticks) ≤ r.steps_granted
  pub least : negsuc 65535 ≤ℤ r.blocks_spent
  pub most : r.blocks_spent ≤ℤ pos 65536

-- some octets, of which the ranges may be reported, and its counter is within its range
pub record CanStore (r : TableEntryFields) (start end : ℕ) : Type 0 where
  pub some : start < end
  pub room : length (with_range start end r.ranges) ≤ 32
  pub least : negsuc 65535 ≤ℤ r.blocks_spent
  pub most : r.blocks_spent ≤ℤ pos 65536
