-- The replies to file data of a transaction that is there, by what the program did.
use Rattle.std.proofs.Common.{◌≡◌, ℕ, ◌+◌, ◌≤◌, ◌<◌, length, refl, ap, sym, ◌∙◌, arith, length-set}
use Rattle.std.proofs.lemmas.List.{length-map}
use Rattle.std.proofs.lemmas.Bool.Decides.{nat_tests}
use Rattle.std.specs.Prelude.{true, false, ◌==◌, nat_le, nat_lt, Some, slice_get, IsTrue}
use Rattle.cfdp_actions.specs.Filestore.{staged_in}
use Rattle.cfdp_actions.specs.Store.{Store}
use Rattle.cfdp_pdus.specs.Values.{FileDataFields}
use Rattle.cfdp_pdus.specs.declared.eof.Eof.{Eof}
use Rattle.cfdp_transactions.specs.Received.{Received, kept_with, pieces, is_whole}
use Rattle.cfdp_transactions.specs.Pieces.{received_in, with_range}
use Rattle.cfdp_transactions.specs.Entry.{Awaiting, is_live, takes_data, Entry}
use Rattle.cfdp_transactions.specs.code.TableEntries.{TableEntryFields, entry_in, table_of}
use Rattle.cfdp_transactions.specs.declared.books.Books.{Books}
use Rattle.cfdp_transactions.specs.Events.{Reply}
use Rattle.cfdp_transactions.specs.World.{World}
use Rattle.cfdp_transactions.specs.Delivery.{storing, stores, limit, whole, stored, data_came}
use Rattle.cfdp_transactions.specs.Books.{IsAnswered}
use Rattle.cfdp_transactions.specs.code.Books.{EndsAt, StoresAt, Carries, IsBooked, world_of}
use Rattle.cfdp_transactions.proofs.KeptTable.Answering.{carry, plain_end}
use Rattle.cfdp_transactions.proofs.Indexes.{get_set_same}
use Rattle.cfdp_transactions.proofs.Received.RangesAdded.{pieces_kept}
use Rattle.cfdp_transactions.proofs.KeptTable.WorldOfTable.{table_entry_at}

-- what follows once it is staged ---------------------------------------------------------

pub last_waits : (W : World) (k : ℕ) (e : Entry) (checks : ℕ) (eof : Eof) → e.phase ≡ Awaiting checks → e.eof ≡ Some eof → is_whole eof.size e.received
    ≡ false → stored e.phase W k e ≡ (W, Reply.Stored)
last_waits W k e checks eof waits came missing = rw (waits, came, missing) refl

pub last_whole : (W : World) (k : ℕ) (e : Entry) (checks : ℕ) (eof : Eof) → e.phase ≡ Awaiting checks → e.eof ≡ Some eof → is_whole eof.size e.received ≡ true →
    stored e.phase W k e ≡ whole W k e eof.checksum
last_whole W k e checks eof waits came all = rw (waits, came, all) refl

pub stored_length : (s t : Store) (b d : Books) (k : ℕ) (r : TableEntryFields) (piece : FileDataFields) → slice_get b.table k ≡ Some r →
    StoresAt (world_of s b) (world_of t d) k piece → length d.table ≡ length b.table
stored_length s t b d k r piece at stores_is =
    let e = entry_in s.filestore r in
    let is : world_of t d ≡ stores (world_of s b) k e (kept_with e.received piece.offset piece.octets) = stores_is e
    (table_entry_at s.filestore b.table k r at) in
    sym (length-map d.table (entry_in t.filestore)) ∙ ap (λ (W : World). length W.table) is
    ∙ length-set (table_of s.filestore b.table) k (storing s.filestore e (kept_with e.received piece.offset piece.octets))
    ∙ length-map b.table (entry_in s.filestore)

-- how many pieces there would be ------------------------------------------------------------

module _ (s : Store) (b : Books) (booked : IsBooked s b) (k : ℕ) (r : TableEntryFields) (at : slice_get b.table k ≡ Some r) (live : IsTrue (is_live r.phase))
    (piece : FileDataFields) (some : 0 < length piece.octets) where
  abbrev count : ℕ
  count = length (with_range piece.offset (piece.offset + length piece.octets) r.ranges)

  pieces_entry : pieces (kept_with (entry_in s.filestore r).received piece.offset piece.octets) ≡ count
  pieces_entry =
      let is : (entry_in s.filestore r).received ≡ received_in r.ranges (staged_in s.filestore r.slot) = rw live refl in
      ap (λ (rs : Received). pieces (kept_with rs piece.offset piece.octets)) is
      ∙ pieces_kept r.ranges (staged_in s.filestore r.slot) piece.offset piece.octets (booked.pieces k r at live).pieces some

  pub many_pieces : nat_le count 32 ≡ false → nat_lt 32 (pieces (kept_with (entry_in s.filestore r).received piece.offset piece.octets)) ≡ true
  many_pieces h = let is = pieces_entry in grind (arith, nat_tests)

  pub few_pieces : nat_le count 32 ≡ true → pieces (kept_with (entry_in s.filestore r).received piece.offset piece.octets) ≤ 32
  few_pieces h = let is = pieces_entry in grind (arith, nat_tests)

-- the tests before ---------------------------------------------------------------------------

module _ (W : World) (k : ℕ) (piece : FileDataFields) (e : Entry) (at : slice_get W.table k ≡ Some e) where
  pub data_idle : takes_data e.phase ≡ false → data_came W k piece (Some e) ≡ (W, Reply.Idle)
  data_idle idle = rw idle refl

  pub data_none : takes_data e.phase ≡ true → (length piece.octets == 0) ≡ true → data_came W k piece (Some e) ≡ (W, Reply.Stored)
  data_none opens none = rw (opens, none) refl

  module _ (opens : takes_data e.phase ≡ true) (some : (length piece.octets == 0) ≡ false) where
    pub data_past : (V : World) → nat_lt (limit e.phase W.config e) (piece.offset + length piece.octets) ≡ true → EndsAt W V k false 6 →
        data_came W k piece (Some e) ≡ (V, Reply.Faulted 6)
    data_past V past ended = rw (opens, some, past, plain_end W V k 6 ended e at) refl

    module _ (below : nat_lt (limit e.phase W.config e) (piece.offset + length piece.octets) ≡ false) where
      pub data_dropped : nat_lt 32 (pieces (kept_with e.received piece.offset piece.octets)) ≡ true → data_came W k piece (Some e) ≡ (W, Reply.Dropped)
      data_dropped many = rw (opens, some, below, many) refl

      pub data_stored : (V U : World) (reply : Reply) → nat_lt 32 (pieces (kept_with e.received piece.offset piece.octets)) ≡ false → StoresAt W V k piece →
          ((f : Entry) → slice_get V.table k ≡ Some f → stored f.phase V k f ≡ (U, reply)) → IsAnswered reply → Carries W U (data_came W k piece (Some e)) reply
      data_stored V U reply few stores_is judged answered =
          let rs = kept_with e.received piece.offset piece.octets in
          let new = storing W.filestore e rs in
          let is : V ≡ stores W k e rs = stores_is e at in
          let then : stored e.phase (stores W k e rs) k new ≡ (U, reply) = rw is at (judged new (rw is (get_set_same W.table k new e at))) in
          let came : data_came W k piece (Some e) ≡ (U, reply) = rw (opens, some, below, few) then in
          carry W U (data_came W k piece (Some e)) reply answered came
