-- The program's table, leases and quota after a transaction was admitted, and the ruling on its Metadata.
use Rattle.std.proofs.Common.{◌≡◌, ◌≢◌, ℕ, zero, suc, ◌+◌, ◌<◌, List, [], ◌∷◌, ◌++◌, length, refl, ap, sym, ◌∙◌, arith}
use Rattle.std.specs.Prelude.{◌&&◌, not, Bool, true, false, if◌then◌else◌, Some, None, slice_get, remove, IsTrue, IsFalse}
use mathlib.Core.Logic.{inl, inr}
use Rattle.cfdp_pdus.specs.Values.{MetadataFields}
use Rattle.cfdp_pdus.specs.declared.header.Header.{Header}
use Rattle.cfdp_actions.specs.Actions.{Item}
use Rattle.cfdp_actions.specs.Store.{Store}
use Rattle.cfdp_verifier.specs.Verdict.{Verdict, verdict}
use Rattle.cfdp_transactions.specs.World as worlds
use Rattle.cfdp_quota.specs.Budget.{Budget, entry_at, reserving, spare}
use Rattle.cfdp_status.specs.declared.transaction.TransactionId.{TransactionId}
use Rattle.cfdp_leases.specs.Footprint.{footprint_of}
use Rattle.cfdp_leases.specs.Leases.{Grants, is_same, holds}
use Rattle.cfdp_transactions.specs.Entry.{Receiving, is_live, Entry, id_of, name_of, footprint, reserve}
use Rattle.cfdp_transactions.specs.World.{World, reserves, leases_of, index_in, has_slot, slot_from, free_slot}
use Rattle.cfdp_transactions.specs.Admission.{new_entry, with_new, proposal_of}
use Rattle.cfdp_transactions.specs.Sound.{IsVacant, Sound}
use Rattle.cfdp_transactions.specs.code.Adding.{AddsEntry}
use Rattle.cfdp_transactions.specs.code.TableEntries.{TableEntryFields, entry_in, table_of, kept_index, fresh_entry}
use Rattle.cfdp_transactions.specs.code.Books.{FitsBudget, ArePiecesIn, IsBooked, world_of}
use Rattle.cfdp_transactions.specs.declared.books.Books.{Books}
use Rattle.cfdp_transactions.proofs.KeptTable.Accounts.{leases_added}
use Rattle.cfdp_transactions.proofs.KeptTable.Budgets.{reserved_elsewhere}
use Rattle.cfdp_transactions.proofs.KeptTable.EntryAdded.{reserves_added, world_added}
use Rattle.cfdp_transactions.proofs.FreeSlots.{free_slot_is, free_vacant}
use Rattle.cfdp_transactions.proofs.Indexes.{append_cases, append_each, get_append}
use Rattle.cfdp_transactions.proofs.KeptTable.WorldOfTable.{index_among, length_in}

-- one that is granted its items --------------------------------------------------------------

pub got : {X : Type 0} (t : List X) (new : X) → slice_get (t ++ new ∷ []) (length t) ≡ Some new
got [] x = refl
got (y ∷ t) x = got t x

pub remove_last : (table_entries : List TableEntryFields) (new : TableEntryFields) (index : ℕ) → index ≡ length table_entries
    → remove (table_entries ++ new ∷ []) index ≡ table_entries
remove_last [] new zero e = refl
remove_last [] new (suc index) e = absurd (omega arith)
remove_last (r ∷ table_entries) new zero e = absurd (omega arith)
remove_last (r ∷ table_entries) new (suc index) e = ap (λ (rs : List TableEntryFields). r ∷ rs) (remove_last table_entries new index (omega (arith, e)))

-- nobody of that name holds leases
holds_step : (e : Entry) (t : List Entry) (id : TransactionId) (live b : Bool) → is_live e.phase ≡ live → is_same (name_of e) id ≡ b →
    (index_in id t ≡ length t → IsFalse (holds (leases_of t) id)) → (if b then 0 else suc (index_in id t)) ≡ suc (length t) →
    IsFalse (holds (if live then (name_of e, footprint e) ∷ leases_of t else leases_of t) id)
holds_step e t id live true is same later h = absurd (omega arith)
holds_step e t id true false is same later h = rw same (later (omega (arith, h)))
holds_step e t id false false is same later h = later (omega (arith, h))

holds_none : (t : List Entry) (id : TransactionId) → index_in id t ≡ length t → IsFalse (holds (leases_of t) id)
holds_none [] id h = refl
holds_none (e ∷ t) id h = holds_step e t id (is_live e.phase) (is_same (name_of e) id) refl refl (holds_none t id) h

pub unheld : (s : Store) (b : Books) → IsBooked s b → (id : TransactionId) → kept_index id b.table ≡ length b.table → IsFalse (holds b.leases id)
unheld s b booked id absent =
    rw booked.leases (holds_none (table_of s.filestore b.table) id (index_among s.filestore id b.table ∙ absent ∙ sym (length_in s.filestore b.table)))

module _ (s : Store) (b : Books) (sound : Sound (world_of s b)) (booked : IsBooked s b) (few : length b.table < 64) (h : Header) (m : MetadataFields)
    (slot blocks steps : ℕ) (items : List Item)
    (free_is : slot ≡ free_slot (world_of s b).table) where
  abbrev W : World
  W = world_of s b

  abbrev table_entry : TableEntryFields
  table_entry = fresh_entry h m Receiving slot items blocks steps

  abbrev new : Entry
  new = new_entry h m Receiving slot items blocks steps

  vacant : IsVacant W.table slot
  vacant = rw free_is (free_vacant W.table (free_slot W.table) (free_slot_is W.table (omega (arith, few, length_in s.filestore b.table))).free)

  granted_entry : entry_in s.filestore table_entry ≡ new
  granted_entry = rw (sound.vacant slot vacant) refl

  pub granted_adds : AddsEntry W (world_of s (record b { table = b.table ++ table_entry ∷ [] }))
      (new_entry h m Receiving (free_slot W.table) items blocks steps)
  granted_adds = world_added s b table_entry ∙ ap (with_new W) (granted_entry ∙ ap (λ n. new_entry h m Receiving n items blocks steps) free_is)

  module _ (q : Budget) (reserved : q ≡ reserving b.quota slot blocks) (opened : entry_at q slot ≡ Some blocks) (kept : spare q + blocks ≡ spare b.quota) where
    old_open : (k : ℕ) (d : Entry) → slice_get W.table k ≡ Some d → IsTrue (is_live d.phase) → entry_at q d.slot ≡ Some (reserve d)
    old_open k d at live = rw reserved (reserved_elsewhere b.quota slot blocks d.slot (vacant k d at live)) ∙ booked.budget.opened k d at live

    closed_now : (other : ℕ) → IsVacant (W.table ++ new ∷ []) other → entry_at q other ≡ None
    closed_now other free =
        let ne : other ≢ slot = λ same. free (length W.table) new (got W.table new) refl (sym same) in
        rw reserved (reserved_elsewhere b.quota slot blocks other ne) ∙ booked.budget.closed other (λ k d at. free k d (get_append W.table new k d at))

    granted_fits : FitsBudget q (with_new W new)
    granted_fits = record {
      in_all = rw reserved booked.budget.in_all;
      not_used = rw reserved booked.budget.not_used;
      not_granted = let own : reserve new ≡ blocks = omega arith in omega (arith, booked.budget.not_granted, reserves_added W.table new, own, kept);
      opened = append_each (λ _ (d : Entry). IsTrue (is_live d.phase) → entry_at q d.slot ≡ Some (reserve d)) W.table new (λ _. opened
          ∙ (let own : Some blocks ≡ Some (reserve new) = ap (λ n. Some n) (omega arith) in own)) old_open;
      closed = closed_now;
    }

    granted_pieces : (k : ℕ) (r : TableEntryFields) → slice_get (b.table ++ table_entry ∷ []) k ≡ Some r → ArePiecesIn s.filestore r
    granted_pieces k r at = elim (append_cases b.table table_entry k r at) [
      | inl last ↦ λ live. rw (last.1, sound.vacant slot vacant) (record { pieces = record { runs = tt; within = tt }; to_end = refl })
      | inr before ↦ booked.pieces k r before.1
    ]

    pub granted_booked : IsBooked s (record {
      config = b.config;
      table = b.table ++ table_entry ∷ [];
      leases = b.leases ++ (id_of h, footprint_of items) ∷ [];
      quota = q;
    })
    granted_booked =
        let world : world_of s (record b { table = b.table ++ table_entry ∷ [] }) ≡ with_new W new = world_added s b table_entry
        ∙ ap (with_new W) granted_entry in
        record {
          leases = ap (λ (ls : Grants). ls ++ (id_of h, footprint_of items) ∷ []) booked.leases
              ∙ sym (ap (λ (V : World). leases_of V.table) world ∙ leases_added W.table new);
          budget = rw world granted_fits;
          capacity = booked.capacity;
          few = booked.few;
          pieces = granted_pieces;
        }

-- the ruling -------------------------------------------------------------------------------

-- the verdict by the books is that of the world
pub verdict_in : (s : Store) (b : Books) → IsBooked s b → (m : MetadataFields) (v : Verdict) → v
    ≡ verdict b.config.prefixes s.filestore b.leases (spare b.quota) (proposal_of b.config m) →
    v ≡ verdict b.config.prefixes s.filestore (leases_of (world_of s b).table) (worlds.spare_blocks (world_of s b)) (proposal_of b.config m)
verdict_in s b booked m v is =
    let W = world_of s b in
    let left : spare b.quota ≡ worlds.spare_blocks W = omega (arith, booked.budget.not_granted) in
    is ∙ ap (λ (ls : Grants). verdict b.config.prefixes s.filestore ls (spare b.quota) (proposal_of b.config m)) booked.leases
    ∙ ap (λ n. verdict b.config.prefixes s.filestore (leases_of W.table) n (proposal_of b.config m)) left

-- no file, or a checksum that is known
pub file_known : (file known : Bool) → known ≡ true → IsFalse (file && not known)
file_known true known e = rw e refl
file_known false known e = refl
