-- The program's table, leases and quota after a live transaction came to another phase.
use Rattle.std.proofs.Common.{◌≡◌, ℕ, [], refl, ◌∙◌}
use Rattle.std.specs.Prelude.{Bool, Option, Some, slice_get, slice_set, IsTrue}
use Rattle.cfdp_pdus.specs.declared.eof.Eof.{Eof}
use Rattle.cfdp_actions.specs.Store.{Store}
use Rattle.cfdp_transactions.specs.Entry.{Phase, is_live}
use Rattle.cfdp_transactions.specs.World.{change_at}
use Rattle.cfdp_transactions.specs.Sound.{Sound}
use Rattle.cfdp_transactions.specs.code.TableEntries.{TableEntryFields, entry_in, entry_turned}
use Rattle.cfdp_transactions.specs.code.Books.{IsBooked, TurnsAt, world_of}
use Rattle.cfdp_transactions.specs.declared.books.Books.{Books}
use Rattle.cfdp_transactions.proofs.Indexes.{get_same}
use Rattle.cfdp_transactions.proofs.KeptTable.Accounts.{Adjusts}
use Rattle.cfdp_transactions.proofs.KeptTable.EntryChanged.{entry_at_k, reserve_open, table_now, booked_now}

module _ (s : Store) (b : Books) (sound : Sound (world_of s b)) (booked : IsBooked s b) (k : ℕ) (r : TableEntryFields) (at : slice_get b.table k ≡ Some r)
    (live : IsTrue (is_live r.phase))
    (phase : Phase) (still : IsTrue (is_live phase)) (eof : Option Eof) (complete : Bool) where
  abbrev now : TableEntryFields
  now = entry_turned r phase eof complete

  pub turned_world : TurnsAt (world_of s b) (world_of s (record b { table = slice_set b.table k now })) k phase eof complete
  turned_world e at_e =
      let same : e ≡ entry_in s.filestore r = get_same (world_of s b).table k k e (entry_in s.filestore r) at_e
      (entry_at_k s b sound booked k r at live) refl in
      rw (same, table_now s b sound booked k r at live [] tt now, live, still) refl

  adjusts : Adjusts b.quota b.quota (world_of s b) (change_at (world_of s b) k [] (entry_in s.filestore now)) (entry_in s.filestore r)
      (entry_in s.filestore now)
  adjusts = record {
    in_all = refl;
    not_used = booked.budget.not_used;
    not_granted = rw (live, still) refl;
    here = rw still (reserve_open s b sound booked k r at live ∙ rw live refl);
    elsewhere = λ other ne. refl;
  }

  pub turned_booked : IsBooked s (record b { table = slice_set b.table k now })
  turned_booked = booked_now s b sound booked k r at live [] tt now refl refl refl (λ alive. booked.pieces k r at live) b.quota adjusts b.leases (rw still refl)
