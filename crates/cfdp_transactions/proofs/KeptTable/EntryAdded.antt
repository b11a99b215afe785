-- The program's table, leases and quota after a transaction was added.
use Rattle.std.proofs.Common.{◌≡◌, ℕ, ◌+◌, List, [], ◌∷◌, ◌++◌, refl, ap, sym, subst, ◌∙◌, arith}
use Rattle.std.specs.Prelude.{Some, slice_get, IsTrue, IsFalse}
use Rattle.std.proofs.lemmas.Bool.{both_ways}
use Rattle.std.proofs.lemmas.List.{append-nil}
use mathlib.Core.Logic.{inl, inr}
use Rattle.cfdp_pdus.specs.Values.{MetadataFields}
use Rattle.cfdp_pdus.specs.declared.header.Header.{Header}
use Rattle.cfdp_actions.specs.Filestore.{Filestore}
use Rattle.cfdp_actions.specs.Store.{Store}
use Rattle.cfdp_quota.specs.Budget.{entry_at}
use Rattle.cfdp_transactions.specs.Entry.{Phase, is_live, Entry, reserve}
use Rattle.cfdp_transactions.specs.World.{World, reserves, leases_of}
use Rattle.cfdp_transactions.specs.Admission.{refused_entry, with_new}
use Rattle.cfdp_transactions.specs.code.TableEntries.{TableEntryFields, entry_in, fresh_entry}
use Rattle.cfdp_transactions.specs.code.Books.{FitsBudget, ArePiecesIn, IsBooked, world_of}
use Rattle.cfdp_transactions.specs.declared.books.Books.{Books}
use Rattle.cfdp_transactions.proofs.KeptTable.Accounts.{leases_added}
use Rattle.cfdp_transactions.proofs.Soundness.OwnChange.{reserves_total}
use Rattle.cfdp_transactions.proofs.Indexes.{append_cases, append_each, get_append, total-append}
use Rattle.cfdp_transactions.proofs.KeptTable.WorldOfTable.{append_in}

pub reserves_added : (t : List Entry) (new : Entry) → reserves (t ++ new ∷ []) ≡ reserves t + reserve new
reserves_added t new = omega (arith, reserves_total t, reserves_total (t ++ new ∷ []), total-append reserve t new)

pub world_added : (s : Store) (b : Books) (r : TableEntryFields) → world_of s (record b { table = b.table ++ r ∷ [] }) ≡ with_new (world_of s b)
    (entry_in s.filestore r)
world_added s b r = ap (λ (t : List Entry). record (world_of s b) { table = t }) (append_in s.filestore b.table r)

-- one that never was live ------------------------------------------------------------------

pub final_entry : (F : Filestore) (h : Header) (m : MetadataFields) (phase : Phase) → IsFalse (is_live phase) → entry_in F (fresh_entry h m phase 0 [] 0 0)
    ≡ refused_entry h m phase
final_entry F h m phase over = rw over refl

module _ (s : Store) (b : Books) (booked : IsBooked s b) (h : Header) (m : MetadataFields) (phase : Phase) (over : IsFalse (is_live phase)) where
  abbrev W : World
  W = world_of s b

  abbrev new : Entry
  new = refused_entry h m phase

  never : IsTrue (is_live phase) → ⊥
  never live = both_ways (is_live phase) over live

  final_leases : leases_of (W.table ++ new ∷ []) ≡ leases_of W.table
  final_leases = leases_added W.table new ∙ rw over (append-nil (leases_of W.table))

  final_fits : FitsBudget b.quota (with_new W new)
  final_fits = record {
    in_all = booked.budget.in_all;
    not_used = booked.budget.not_used;
    not_granted = let none : reserve new ≡ 0 = rw over refl in omega (arith, booked.budget.not_granted, reserves_added W.table new, none);
    opened = append_each (λ _ (d : Entry). IsTrue (is_live d.phase) → entry_at b.quota d.slot ≡ Some (reserve d)) W.table new
        (λ live. absurd (never live)) booked.budget.opened;
    closed = λ slot vacant. booked.budget.closed slot (λ j d there. vacant j d (get_append W.table new j d there));
  }

  final_pieces : (k : ℕ) (r : TableEntryFields) → slice_get (b.table ++ fresh_entry h m phase 0 [] 0 0 ∷ []) k ≡ Some r → ArePiecesIn s.filestore r
  final_pieces k r at = elim (append_cases b.table (fresh_entry h m phase 0 [] 0 0) k r at) [
    | inl last ↦ λ live. absurd (never (rw last.1 at live))
    | inr before ↦ booked.pieces k r before.1
  ]

  pub final_booked : IsBooked s (record b { table = b.table ++ fresh_entry h m phase 0 [] 0 0 ∷ [] })
  final_booked = record {
    leases = booked.leases ∙ sym (ap (λ (t : List Entry). leases_of t) (append_in s.filestore b.table (fresh_entry h m phase 0 [] 0 0)
        ∙ ap (λ e. W.table ++ e ∷ []) (final_entry s.filestore h m phase over)) ∙ final_leases);
    budget = subst (λ (V : World). FitsBudget b.quota V) (sym (world_added s b (fresh_entry h m phase 0 [] 0 0)
        ∙ ap (with_new W) (final_entry s.filestore h m phase over))) final_fits;
    capacity = booked.capacity;
    few = booked.few;
    pieces = final_pieces;
  }
