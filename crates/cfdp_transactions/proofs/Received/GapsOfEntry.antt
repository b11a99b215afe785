-- What is missing of a transaction's file, by its ranges.
use Rattle.std.proofs.Common.{◌≡◌, ℕ, List, length, refl, ap, sym, ◌∙◌, arith}
use Rattle.std.specs.Prelude.{Bool, true, false, if◌then◌else◌, Some, slice_get, IsTrue}
use Rattle.std.proofs.lemmas.List.{length-replicate}
use Rattle.cfdp_actions.specs.Filestore.{staged_in}
use Rattle.cfdp_actions.specs.Store.{Store}
use Rattle.cfdp_transactions.specs.Received.{Received, gaps_below}
use Rattle.cfdp_transactions.specs.Pieces.{received_in}
use Rattle.cfdp_transactions.specs.code.Pieces.{end_of}
use Rattle.cfdp_transactions.specs.Entry.{Phase, Receiving, Awaiting, Executing, Refused, Done, Ended, Entry, awaited, gaps, gaps_in, is_live, progress, reach, reach_in}
use Rattle.cfdp_transactions.specs.Sound.{Sound}
use Rattle.cfdp_transactions.specs.code.TableEntries.{TableEntryFields, entry_in, kept_gaps, kept_gaps_in, kept_progress, kept_reach, kept_reach_in}
use Rattle.cfdp_transactions.specs.code.Books.{IsBooked, world_of}
use Rattle.cfdp_transactions.specs.declared.books.Books.{Books}
use Rattle.cfdp_transactions.proofs.Received.PieceRanges.{gaps_are_between}
use Rattle.cfdp_transactions.proofs.KeptTable.EntryChanged.{kept_entry}
use Rattle.cfdp_transactions.proofs.Received.Writing.{length-received}

module _ (s : Store) (b : Books) (sound : Sound (world_of s b)) (booked : IsBooked s b) (k : ℕ) (r : TableEntryFields) (at : slice_get b.table k ≡ Some r) where
  abbrev e : Entry
  e = entry_in s.filestore r

  abbrev xs : List ℕ
  xs = staged_in s.filestore r.slot

  is_received : IsTrue (is_live r.phase) → e.received ≡ received_in r.ranges xs
  is_received live = rw live refl

  gaps_by : (phase : Phase) → r.phase ≡ phase → gaps_in phase e ≡ kept_gaps_in phase r
  gaps_by Receiving is =
      let live : IsTrue (is_live r.phase) = rw is refl in
      let all = booked.pieces k r at live in
      ap (λ (rs : Received). gaps_below (length rs) rs) (is_received live) ∙ ap (λ (n : ℕ). gaps_below n (received_in r.ranges xs))
      (length-received 0 r.ranges xs ∙ sym all.to_end)
      ∙ gaps_are_between (end_of r.ranges) r.ranges xs all.pieces (omega (arith, all.to_end))
  gaps_by (Awaiting checks) is =
      let live : IsTrue (is_live r.phase) = rw is refl in
      let all = booked.pieces k r at live in
      let fits = rw is at (kept_entry s b sound booked k r at live).fits in
      let long = ap (λ (rs : Received). length rs) (is_received live) ∙ length-received 0 r.ranges xs in
      ap (λ (rs : Received). gaps_below (awaited r.eof) rs) (is_received live)
      ∙ gaps_are_between (awaited r.eof) r.ranges xs all.pieces (omega (
        arith,
        fits,
        long,
        length-received 0 r.ranges xs,
        length-replicate {A = ℕ} (awaited r.eof) 0,
      ))
  gaps_by (Executing next) is = refl
  gaps_by Refused is = refl
  gaps_by Done is = refl
  gaps_by (Ended condition) is = refl

  pub gaps_entry : gaps e ≡ kept_gaps r
  gaps_entry = gaps_by r.phase refl

  -- the end of the last octet, and up to where the gaps say
  progress_by : (live : Bool) → is_live r.phase ≡ live → progress e ≡ (if live then end_of r.ranges else 0)
  progress_by true is =
      let live : IsTrue (is_live r.phase) = is in
      ap (λ (rs : Received). length rs) (is_received live) ∙ length-received 0 r.ranges xs ∙ sym (booked.pieces k r at live).to_end
  progress_by false is = rw is refl

  pub progress_entry : progress e ≡ kept_progress r
  progress_entry = progress_by (is_live r.phase) refl

  reach_by : (phase : Phase) → r.phase ≡ phase → reach_in phase e ≡ kept_reach_in phase r
  reach_by Receiving is = progress_by true (rw is refl)
  reach_by (Awaiting checks) is = refl
  reach_by (Executing next) is = refl
  reach_by Refused is = refl
  reach_by Done is = refl
  reach_by (Ended condition) is = refl

  pub reach_entry : reach e ≡ kept_reach r
  reach_entry = reach_by r.phase refl
