-- The program's table and quota after file data of a transaction was staged.
use Rattle.std.proofs.Common.{◌≡◌, ℕ, ◌+◌, ◌-◌, max, ◌≤◌, List, [], ◌∷◌, length, refl, ap, sym, ◌∙◌, arith}
use Rattle.std.specs.Prelude.{Bool, ℤ, Some, None, slice_get, slice_set, IsTrue, if◌then◌else◌}
use Rattle.cfdp_actions.specs.Filestore.{Filestore, staged_in, blocks, blocks_of, Change, Stages, after}
use Rattle.cfdp_actions.specs.Store.{Store, free_blocks, with_changes}
use Rattle.cfdp_actions.proofs.Weights.{blocks-stages}
use Rattle.cfdp_pdus.specs.Values.{FileDataFields}
use Rattle.cfdp_quota.specs.Budget.{Budget, entry_at, reserve_at, spare, taking}
use Rattle.cfdp_transactions.specs.Received.{Received, kept_with, staged_of}
use Rattle.cfdp_transactions.specs.Pieces.{received_in, with_range}
use Rattle.cfdp_transactions.specs.PieceLaws.{ArePieces}
use Rattle.cfdp_transactions.specs.code.FileData.{kept}
use Rattle.cfdp_transactions.specs.Entry.{is_live, Entry, reserve, blocks_left, spend}
use Rattle.cfdp_transactions.specs.World.{World, free, change_at}
use Rattle.cfdp_transactions.specs.Delivery.{storing, stores}
use Rattle.cfdp_transactions.specs.code.LowerLaws.{LowerLaws}
use Rattle.cfdp_transactions.specs.Needs.{HasRoomFor}
use Rattle.cfdp_transactions.specs.Sound.{Sound}
use Rattle.cfdp_transactions.specs.code.TableEntries.{TableEntryFields, entry_in, received_by, entry_stored}
use Rattle.cfdp_transactions.specs.code.TableChanges.{CanStore}
use Rattle.cfdp_transactions.specs.code.Books.{IsBooked, IsTakenAt, StoresAt, TakesPiece, ArePiecesIn, world_of}
use Rattle.cfdp_transactions.specs.declared.books.Books.{Books}
use Rattle.cfdp_transactions.proofs.KeptTable.Accounts.{Adjusts}
use Rattle.cfdp_transactions.proofs.KeptTable.Answering.{entry_is}
use Rattle.cfdp_transactions.proofs.Balance.{left-spend}
use Rattle.cfdp_transactions.proofs.KeptTable.Budgets.{reserve_is, taken_here, taken_elsewhere}
use Rattle.cfdp_transactions.proofs.Soundness.EachEvent.{data_live, storing_moves}
use Rattle.cfdp_transactions.proofs.Received.FillingGaps.{staged_anew}
use Rattle.cfdp_transactions.proofs.Soundness.Needs.{data_needs}
use Rattle.cfdp_transactions.proofs.Received.RangesAdded.{end_added, pieces_added, pieces_kept}
use Rattle.cfdp_transactions.proofs.KeptTable.EntryChanged.{entry_at_k, kept_entry, least_spent, most_spent, reserve_open, table_now, booked_now}
use Rattle.cfdp_transactions.proofs.Soundness.Turning.{length-staged_of, reserve_live}
use Rattle.cfdp_transactions.proofs.Received.Writing.{kept_length}

module _ (s : Store) (b : Books) (sound : Sound (world_of s b)) (booked : IsBooked s b) (k : ℕ) (r : TableEntryFields) (at : slice_get b.table k ≡ Some r)
    (piece : FileDataFields) (takes : IsTakenAt (world_of s b) k piece) where
  abbrev F : Filestore
  F = s.filestore

  abbrev W : World
  W = world_of s b

  abbrev e : Entry
  e = entry_in F r

  abbrev xs : List ℕ
  xs = staged_in F r.slot

  abbrev end : ℕ
  end = piece.offset + length piece.octets

  abbrev received : Received
  received = kept_with e.received piece.offset piece.octets

  there : TakesPiece W e piece
  there = rw (entry_is s b k r at takes.0 takes.1) at takes.2

  pub live : IsTrue (is_live r.phase)
  live = data_live r.phase there.opens

  at_k : slice_get W.table k ≡ Some e
  at_k = entry_at_k s b sound booked k r at live

  -- what was received

  is_received : e.received ≡ received_in r.ranges xs
  is_received = rw live refl

  pub kept_is : kept F r.slot r.ranges piece.offset piece.octets ≡ received
  kept_is = rw live refl

  pub pieces_here : ArePieces r.ranges xs
  pieces_here = (booked.pieces k r at live).pieces

  pub zeros_here : staged_of (received_in r.ranges xs) ≡ xs
  zeros_here = rw (← is_received) (sym (kept_entry s b sound booked k r at live).staged)

  old_long : length e.received ≡ length xs
  old_long = sym (length-staged_of e.received) ∙ ap length (sym (kept_entry s b sound booked k r at live).staged)

  long : length received ≡ max (length xs) end
  long = rw (← old_long) (kept_length e.received piece.offset piece.octets there.some)

  -- its blocks

  needs : HasRoomFor W e received
  needs = data_needs W k e received sound at_k there.opens (omega (arith, long, old_long, there.below))

  same_free : free_blocks s ≡ free W
  same_free = rw booked.capacity refl

  in_reserve : reserve_at b.quota r.slot ≡ reserve e
  in_reserve = reserve_is b.quota r.slot (reserve e) (reserve_open s b sound booked k r at live)

  more_is : blocks_of (length received) - blocks_of (length xs) ≤ reserve e
  more_is = rw old_long at needs.taken

  pub room : blocks_of (max (length xs) end) - blocks_of (length xs) ≤ free_blocks s
  room = rw (← long) (omega (arith, more_is, needs.free_blocks, same_free))

  pub reserved : (taken : ℕ) → taken ≡ blocks_of (length received) - blocks_of (length xs) → taken ≤ reserve_at b.quota r.slot
  reserved taken is = omega (arith, is, more_is, in_reserve)

  pub can_store : CanStore r piece.offset end
  can_store = record {
    some = omega (arith, there.some);
    room = rw (pieces_kept r.ranges xs piece.offset piece.octets pieces_here there.some) at (rw is_received at there.few);
    least = least_spent s b sound booked k r at live;
    most = most_spent s b sound booked k r at live;
  }

  -- and once it is staged

  module _ (t : Store) (taken : ℕ) (state : t ≡ with_changes s (Stages r.slot (staged_of received) ∷ []))
      (ranges_are : received_in (with_range piece.offset end r.ranges) (staged_in t.filestore r.slot) ≡ received)
      (taken_is : taken ≡ blocks_of (length received) - blocks_of (length xs)) where
    abbrev changes : List Change
    changes = Stages r.slot (staged_of received) ∷ []

    abbrev G : Filestore
    G = after F changes

    abbrev now : TableEntryFields
    now = entry_stored r piece.offset end taken

    abbrev V : World
    V = change_at W k changes (entry_in G now)

    ranges_in : received_in (with_range piece.offset end r.ranges) (staged_in G r.slot) ≡ received
    ranges_in = rw state at ranges_are

    abbrev built : Received → ℤ → Entry
    built rs spent = record e { received = rs; blocks_spent = spent }

    built_same : (a c : Received) (x y : ℤ) → a ≡ c → x ≡ y → built a x ≡ built c y
    built_same a c x y e1 e2 = rw (e1, e2) refl

    received_now : received_by G now ≡ received
    received_now = ap (λ (alive : Bool). if alive then received_in (with_range piece.offset end r.ranges) (staged_in G r.slot) else []) live ∙ ranges_in

    entry_now : entry_in G now ≡ storing F e received
    entry_now = built_same (received_by G now) received now.blocks_spent _ received_now (ap (λ (n : ℕ). spend r.blocks_spent n 0) taken_is)

    pub stored_world : (q : Budget) → world_of t (record { config = b.config; table = slice_set b.table k now; leases = b.leases; quota = q })
        ≡ stores W k e received
    stored_world q = rw (state, table_now s b sound booked k r at live changes (refl, tt) now, entry_now) refl

    pub stored_at : (q : Budget) → StoresAt W (world_of t (record { config = b.config; table = slice_set b.table k now; leases = b.leases; quota = q })) k piece
    stored_at q f at_f = rw (entry_is s b k r at f at_f) (stored_world q)

    pub stored_sound : LowerLaws → (q : Budget) → Sound (world_of t (record {
      config = b.config;
      table = slice_set b.table k now;
      leases = b.leases;
      quota = q;
    }))
    stored_sound laws q = rw (stored_world q) (storing_moves laws W k e sound at_k piece there.few e.phase refl there.opens there.below).goes.sound

    -- the ranges are those of what is staged

    staged_now : staged_in G r.slot ≡ staged_of received
    staged_now = staged_anew s r.slot (staged_of received) (kept_entry s b sound booked k r at live).slot

    now_long : length (staged_in G r.slot) ≡ max (length xs) end
    now_long = ap length staged_now ∙ length-staged_of received ∙ long

    pieces_now : ArePiecesIn G now
    pieces_now alive = record {
      pieces = pieces_added r.ranges xs (staged_in G r.slot) piece.offset piece.octets pieces_here there.some now_long;
      to_end = end_added 0 piece.offset end r.ranges (omega (arith, there.some)) pieces_here.runs ∙ ap (λ (n : ℕ). max n end) (booked.pieces k r at live).to_end
          ∙ sym now_long;
    }

    -- the budget

    grown : blocks G ≡ blocks F + taken
    unfolding blocks_of
    grown = let h = blocks-stages F r.slot (staged_of received) (kept_entry s b sound booked k r at live).slot in
        omega (arith, h, ap blocks_of (length-staged_of received), taken_is, long)

    left_now : blocks_left r.blocks_granted now.blocks_spent + taken ≡ reserve e
    left_now =
        let honest = sound.honest k e at_k in
        let live_reserve = reserve_live e live in
        let h = left-spend r.blocks_granted r.blocks_spent taken 0 honest.blocks (omega (arith, live_reserve, taken_is, more_is)) in
        omega (arith, h, live_reserve)

    module _ (q : Budget) (took : q ≡ taking b.quota r.slot taken) (spare_is : spare q ≡ spare b.quota) where
      unused : q.free ≡ free V
      unused = rw took (omega (arith, grown, booked.budget.not_used))

      still_open : (n : ℕ) → (if is_live r.phase then Some n else None) ≡ Some n
      still_open n = rw live refl

      adjusts : Adjusts b.quota q W V e (entry_in G now)
      adjusts = record {
        in_all = rw took refl;
        not_used = unused;
        not_granted = omega (arith, spare_is, reserve_live (entry_in G now) live, left_now, grown, needs.free_blocks);
        here = ap (λ (p : Budget). entry_at p r.slot) took ∙ taken_here b.quota r.slot (reserve e) (reserve_open s b sound booked k r at live) taken
            ∙ ap (λ (m : ℕ). Some m) (omega (arith, reserve_live (entry_in G now) live, left_now)) ∙ sym (still_open (reserve (entry_in G now)));
        elsewhere = λ other ne. rw took (taken_elsewhere b.quota r.slot taken other ne);
      }

      pub stored_booked : IsBooked t (record { config = b.config; table = slice_set b.table k now; leases = b.leases; quota = q })
      stored_booked = rw state (booked_now s b sound booked k r at live changes (refl, tt) now refl refl refl pieces_now q adjusts b.leases (rw live refl))
