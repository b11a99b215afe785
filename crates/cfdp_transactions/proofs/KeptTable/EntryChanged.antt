-- The program's table, leases and quota after one live transaction changed.
use Rattle.std.proofs.Common.{◌≡◌, ◌≢◌, ℕ, ◌+◌, ◌<◌, List, [], ◌∷◌, length, refl, ap, sym, ◌∙◌, subst, arith}
use Rattle.std.specs.Prelude.{Bool, true, false, Some, slice_get, slice_set, IsTrue, if◌then◌else◌, pos, negsuc, ◌≤ℤ◌}
use Rattle.std.specs.List.{AllByRecursion}
use Rattle.std.proofs.lemmas.Int.{ints}
use Rattle.cfdp_actions.specs.Filestore.{Filestore, staged_in, blocks_of, blocks, Change, Stages, after}
use Rattle.cfdp_actions.specs.Store.{Store, with_changes}
use Rattle.cfdp_actions.proofs.Weights.{blocks-stages}
use Rattle.cfdp_quota.specs.Budget.{Budget, entry_at, used}
use Rattle.cfdp_leases.specs.Leases.{Grants, without_grant}
use Rattle.cfdp_transactions.specs.Entry.{is_live, Entry, reserve}
use Rattle.cfdp_transactions.specs.World.{World, leases_of, change_at}
use Rattle.cfdp_transactions.specs.Sound.{IsKept, Sound}
use Rattle.cfdp_transactions.specs.code.TableEntries.{TableEntryFields, entry_in, kept_name, table_of}
use Rattle.cfdp_transactions.specs.code.Books.{FitsBudget, IsBooked, ArePiecesIn, IsLiveAt, world_of}
use Rattle.cfdp_transactions.specs.declared.books.Books.{Books}
use Rattle.cfdp_transactions.proofs.Balance.{left_is}
use Rattle.cfdp_transactions.proofs.Indexes.{set_each, get_same}
use Rattle.cfdp_transactions.proofs.SlotChanges.{IsInSlot, after-elsewhere}
use Rattle.cfdp_transactions.proofs.KeptTable.Accounts.{Adjusts, fits_after, leases_changed, leases_ended}
use Rattle.cfdp_transactions.proofs.KeptTable.WorldOfTable.{table_entry_at, set_in}

pub live_entry : (s : Store) (b : Books) (k : ℕ) (r : TableEntryFields) → IsLiveAt (world_of s b) k → slice_get b.table k ≡ Some r → IsTrue (is_live r.phase)
live_entry s b k r there at =
    let same : there.0 ≡ entry_in s.filestore r = get_same (world_of s b).table k k there.0 (entry_in s.filestore r) there.1
    (table_entry_at s.filestore b.table k r at) refl in
    rw (← ap (λ (e : Entry). e.phase) same) there.2

-- what is known of a live entry --------------------------------------------------------

module _ (s : Store) (b : Books) (sound : Sound (world_of s b)) (booked : IsBooked s b) (k : ℕ) (r : TableEntryFields) (at : slice_get b.table k ≡ Some r)
    (live : IsTrue (is_live r.phase)) where
  abbrev F : Filestore
  F = s.filestore

  abbrev e : Entry
  e = entry_in F r

  pub entry_at_k : slice_get (world_of s b).table k ≡ Some e
  entry_at_k = table_entry_at F b.table k r at

  pub kept_entry : IsKept b.config F e
  kept_entry = sound.live k e entry_at_k live

  pub slot_below : r.slot < 64
  slot_below = omega (arith, kept_entry.slot, sound.slots)

  pub least_spent : negsuc 65535 ≤ℤ r.blocks_spent
  least_spent = let h = sound.honest k e entry_at_k in let l = left_is r.blocks_granted r.blocks_spent h.blocks in
      omega (arith, ints, sound.given k e entry_at_k, booked.few)

  pub most_spent : r.blocks_spent ≤ℤ pos 65536
  most_spent = let h = sound.honest k e entry_at_k in omega (arith, ints, h.blocks, h.limits.of_blocks, booked.few)

  pub reserve_open : entry_at b.quota r.slot ≡ Some (reserve e)
  reserve_open = booked.budget.opened k e entry_at_k live

  pub in_use : used b.quota ≡ blocks F
  in_use = omega (arith, booked.budget.in_all, booked.budget.not_used, sound.room)

  pub blocks-unstaged : blocks (after F (Stages r.slot [] ∷ [])) + blocks_of (length (staged_in F r.slot)) ≡ blocks F
  unfolding blocks_of
  blocks-unstaged = omega (arith, blocks-stages F r.slot [] kept_entry.slot)

  module _ (changes : List Change) (in_slot : AllByRecursion (IsInSlot r.slot) changes) (now : TableEntryFields) where
    abbrev G : Filestore
    G = after F changes

    staged_other : (j : ℕ) (q : TableEntryFields) → slice_get b.table j ≡ Some q → j ≢ k → IsTrue (is_live q.phase) → staged_in G q.slot ≡ staged_in F q.slot
    staged_other j q there ne alive =
        after-elsewhere F r.slot q.slot changes in_slot (sound.apart j k (entry_in F q) e (table_entry_at F b.table j q there) entry_at_k ne alive live).slots

    pub table_now : table_of G (slice_set b.table k now) ≡ slice_set (table_of F b.table) k (entry_in G now)
    table_now = set_in F G b.table k now staged_other

    abbrev V : World
    V = change_at (world_of s b) k changes (entry_in G now)

    abbrev with_table : List Entry → World
    with_table table = record { config = b.config; filestore = G; table = table }

    module _ (header : now.header ≡ r.header) (items : now.items ≡ r.items) (slot : now.slot ≡ r.slot) (pieces : ArePiecesIn G now) (q : Budget)
        (adjusts : Adjusts b.quota q (world_of s b) V e (entry_in G now)) where
      lease_case : (alive : Bool) → is_live now.phase ≡ alive → leases_of (slice_set (table_of F b.table) k (entry_in G now))
          ≡ (if alive then b.leases else without_grant b.leases (kept_name r))
      lease_case true still = leases_changed (table_of F b.table) k e (entry_in G now) entry_at_k live still header items ∙ sym booked.leases
      lease_case false final =
          leases_ended (table_of F b.table) k e (entry_in G now) entry_at_k live final sound.names
          ∙ ap (λ (g : Grants). without_grant g (kept_name r)) (sym booked.leases)

      pieces_other : (j : ℕ) (o : TableEntryFields) → slice_get b.table j ≡ Some o → j ≢ k → ArePiecesIn G o
      pieces_other j o there ne alive = rw (staged_other j o there ne alive) (booked.pieces j o there alive)

      pub booked_now : (leases : Grants) → leases ≡ (if is_live now.phase then b.leases else without_grant b.leases (kept_name r)) →
          IsBooked (with_changes s changes) (record { config = b.config; table = slice_set b.table k now; leases = leases; quota = q })
      booked_now leases is = record {
        leases = rw table_now (is ∙ sym (lease_case (is_live now.phase) refl));
        budget = subst (λ (t : List Entry). FitsBudget q (with_table t)) (sym table_now)
            (fits_after (world_of s b) sound k e (entry_in G now) entry_at_k live slot changes b.quota q booked.budget adjusts);
        capacity = booked.capacity;
        few = booked.few;
        pieces = set_each (λ _ (o : TableEntryFields). ArePiecesIn G o) b.table k now pieces pieces_other;
      }
