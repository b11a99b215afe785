-- The program's table, leases and quota after a live transaction without items was done.
use Rattle.std.proofs.Common.{◌≡◌, ℕ, zero, suc, ◌+◌, drop, List, [], refl, arith}
use Rattle.std.specs.Prelude.{true, Some, slice_get, slice_set, IsTrue, IsFalse}
use Rattle.std.proofs.lemmas.List.{nil_from_length}
use Rattle.cfdp_actions.specs.Actions.{Item}
use Rattle.cfdp_actions.specs.Store.{Store}
use Rattle.cfdp_quota.specs.Budget.{Budget, entry_at, reserve_at, spare, closing}
use Rattle.cfdp_leases.specs.Leases.{without_grant}
use Rattle.cfdp_transactions.specs.Entry.{Phase, Receiving, Awaiting, Executing, Refused, Done, Ended, is_live, Entry, items_left, rest, reserve}
use Rattle.cfdp_transactions.specs.World.{change_at}
use Rattle.cfdp_transactions.specs.Sound.{is_next_install, Sound}
use Rattle.cfdp_transactions.specs.code.TableEntries.{TableEntryFields, received_by, entry_in, kept_name, entry_turned}
use Rattle.cfdp_transactions.specs.code.Books.{IsBooked, IsDoneAt, IsBareAt, world_of}
use Rattle.cfdp_transactions.specs.declared.books.Books.{Books}
use Rattle.cfdp_transactions.proofs.KeptTable.Accounts.{Adjusts}
use Rattle.cfdp_transactions.proofs.KeptTable.Answering.{entry_is}
use Rattle.cfdp_transactions.proofs.KeptTable.Budgets.{closed_here, closed_elsewhere, reserve_is}
use Rattle.cfdp_transactions.proofs.KeptTable.EntryChanged.{entry_at_k, kept_entry, reserve_open, table_now, booked_now}

none_following : (n : ℕ) → drop n (let none : List Item = [] in none) ≡ []
none_following zero = refl
none_following (suc n) = refl

drop_nothing : (phase : Phase) (items : List Item) → items ≡ [] → items_left phase items ≡ []
drop_nothing Receiving items is = is
drop_nothing (Awaiting checks) items is = is
drop_nothing (Executing next) items is = rw is (none_following next)
drop_nothing Refused items is = refl
drop_nothing Done items is = refl
drop_nothing (Ended condition) items is = refl

module _ (s : Store) (b : Books) (sound : Sound (world_of s b)) (booked : IsBooked s b) (k : ℕ) (r : TableEntryFields) (at : slice_get b.table k ≡ Some r)
    (live : IsTrue (is_live r.phase)) (bare : IsBareAt (world_of s b) k) where
  abbrev now : TableEntryFields
  now = entry_turned r Done r.eof true

  abbrev e : Entry
  e = entry_in s.filestore r

  nothing_received : received_by s.filestore r ≡ []
  nothing_received =
      let at_k = entry_at_k s b sound booked k r at live in
      let kept = kept_entry s b sound booked k r at live in
      let none : rest e ≡ [] = drop_nothing r.phase r.items (bare e at_k) in
      let no_install : IsFalse (is_next_install (rest e)) = rw none refl in
      nil_from_length (received_by s.filestore r) (omega (arith, kept.fits, kept.nothing no_install))

  pub finished_world : IsDoneAt (world_of s b) (world_of s (record b { table = slice_set b.table k now })) k
  finished_world f at_f = rw (entry_is s b k r at f at_f, table_now s b sound booked k r at live [] tt now, nothing_received) refl

  module _ (q : Budget) (close : q ≡ closing b.quota r.slot) (back : spare q ≡ spare b.quota + reserve_at b.quota r.slot) where
    opened : entry_at b.quota r.slot ≡ Some (reserve e)
    opened = reserve_open s b sound booked k r at live

    adjusts : Adjusts b.quota q (world_of s b) (change_at (world_of s b) k [] (entry_in s.filestore now)) e (entry_in s.filestore now)
    adjusts = record {
      in_all = rw close refl;
      not_used = rw close booked.budget.not_used;
      not_granted = omega (arith, back, reserve_is b.quota r.slot (reserve e) opened);
      here = rw close (closed_here b.quota r.slot (reserve e) opened);
      elsewhere = λ other ne. rw close (closed_elsewhere b.quota r.slot other ne);
    }

    pub finished_booked : IsBooked s (record { config = b.config; table = slice_set b.table k now; leases = without_grant b.leases (kept_name r); quota = q })
    finished_booked = booked_now s b sound booked k r at live [] tt now refl refl refl (λ alive. absurd cc) q adjusts
        (without_grant b.leases (kept_name r)) refl
