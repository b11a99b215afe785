-- The program's table, leases and quota after a live transaction ended.
use Rattle.std.proofs.Common.{◌≡◌, ℕ, ◌+◌, [], ◌∷◌, length, refl, ◌∙◌, arith}
use Rattle.std.specs.Prelude.{Bool, Some, slice_get, slice_set, IsTrue}
use Rattle.cfdp_actions.specs.Filestore.{Filestore, staged_in, blocks_of, Stages, after}
use Rattle.cfdp_actions.specs.Store.{Store, with_changes}
use Rattle.cfdp_quota.specs.Budget.{Budget, entry_at, reserve_at, spare, giving, closing}
use Rattle.cfdp_leases.specs.Leases.{without_grant}
use Rattle.cfdp_transactions.specs.Entry.{is_live, reserve}
use Rattle.cfdp_transactions.specs.World.{World, change_at}
use Rattle.cfdp_transactions.specs.Sound.{Sound}
use Rattle.cfdp_transactions.specs.code.TableEntries.{TableEntryFields, entry_in, kept_name, entry_ended}
use Rattle.cfdp_transactions.specs.code.Books.{IsBooked, EndsAt, world_of}
use Rattle.cfdp_transactions.specs.declared.books.Books.{Books}
use Rattle.cfdp_transactions.proofs.Indexes.{get_same}
use Rattle.cfdp_transactions.proofs.KeptTable.Accounts.{Adjusts}
use Rattle.cfdp_transactions.proofs.KeptTable.Budgets.{given_here, closed_here, given_elsewhere, closed_elsewhere, reserve_is}
use Rattle.cfdp_transactions.proofs.KeptTable.EntryChanged.{entry_at_k, reserve_open, blocks-unstaged, table_now, booked_now}

module _ (s : Store) (b : Books) (sound : Sound (world_of s b)) (booked : IsBooked s b) (k : ℕ) (r : TableEntryFields) (at : slice_get b.table k ≡ Some r)
    (live : IsTrue (is_live r.phase))
    (condition : ℕ) (by_eof : Bool) (given : ℕ) (unstaged : given ≡ blocks_of (length (staged_in s.filestore r.slot))) where
  abbrev F : Filestore
  F = s.filestore

  abbrev G : Filestore
  G = after F (Stages r.slot [] ∷ [])

  abbrev now : TableEntryFields
  now = entry_ended r condition by_eof given

  abbrev W : World
  W = world_of s b

  pub ended_world : EndsAt W (world_of (with_changes s (Stages r.slot [] ∷ [])) (record b { table = slice_set b.table k now })) k by_eof condition
  ended_world e at_e =
      let same : e ≡ entry_in F r = get_same W.table k k e (entry_in F r) at_e (entry_at_k s b sound booked k r at live) refl in
      rw (same, table_now s b sound booked k r at live (Stages r.slot [] ∷ []) (refl, tt) now, unstaged) refl

  module _ (p q : Budget) (gave : p ≡ giving b.quota r.slot given) (kept : spare p ≡ spare b.quota) (close : q ≡ closing p r.slot) (back : spare q ≡ spare p
      + reserve_at p r.slot) where
    opened : entry_at p r.slot ≡ Some (reserve (entry_in F r) + given)
    opened = rw gave (given_here b.quota r.slot (reserve (entry_in F r)) (reserve_open s b sound booked k r at live) given)

    adjusts : Adjusts b.quota q W (change_at W k (Stages r.slot [] ∷ []) (entry_in G now)) (entry_in F r) (entry_in G now)
    adjusts = record {
      in_all = rw (close, gave) refl;
      not_used = rw (close, gave) (omega (arith, booked.budget.not_used, sound.room, blocks-unstaged s b sound booked k r at live));
      not_granted = let is = reserve_is p r.slot (reserve (entry_in F r) + given) opened in
          omega (arith, booked.budget.not_used, sound.room, blocks-unstaged s b sound booked k r at live);
      here = rw close (closed_here p r.slot (reserve (entry_in F r) + given) opened);
      elsewhere = λ other ne. rw close (closed_elsewhere p r.slot other ne ∙ rw gave (given_elsewhere b.quota r.slot given other ne));
    }

    pub ended_booked : IsBooked (with_changes s (Stages r.slot [] ∷ [])) (record {
      config = b.config;
      table = slice_set b.table k now;
      leases = without_grant b.leases (kept_name r);
      quota = q;
    })
    ended_booked = booked_now s b sound booked k r at live (Stages r.slot [] ∷ []) (refl, tt) now refl refl refl (λ alive. absurd cc) q adjusts
        (without_grant b.leases (kept_name r)) refl
