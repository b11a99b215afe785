-- The replies to an EOF of a transaction that is there, by what the program did.
use Rattle.std.proofs.Common.{◌≡◌, ℕ, List, length, refl, ap, sym, ◌∙◌}
use Rattle.std.specs.Prelude.{Bool, true, false, not, ◌||◌, ◌==◌, if◌then◌else◌, nat_lt, Some, slice_get, IsTrue}
use Rattle.cfdp_pdus.specs.declared.eof.Eof.{Eof}
use Rattle.cfdp_actions.specs.Filestore.{staged_in}
use Rattle.cfdp_actions.specs.Store.{Store}
use Rattle.cfdp_checksum.specs.Checksum.{checksum}
use Rattle.cfdp_transactions.specs.Entry.{Awaiting, Executing, Done, is_live, is_receiving, Entry, has_file}
use Rattle.cfdp_transactions.specs.Events.{Reply}
use Rattle.cfdp_transactions.specs.World.{World, bound}
use Rattle.cfdp_transactions.specs.Delivery.{turns, is_right_checksum, whole, eof_without_error, eof_came}
use Rattle.cfdp_transactions.specs.Ending.{ends}
use Rattle.cfdp_transactions.specs.Received.{is_whole}
use Rattle.cfdp_transactions.specs.Pieces.{received_in}
use Rattle.cfdp_transactions.specs.code.Pieces.{is_all}
use Rattle.cfdp_transactions.specs.Sound.{Sound}
use Rattle.cfdp_transactions.specs.code.TableEntries.{TableEntryFields, entry_in}
use Rattle.cfdp_transactions.specs.code.Books.{EndsAt, TurnsAt, IsDoneAt, IsBooked, world_of}
use Rattle.cfdp_transactions.specs.declared.books.Books.{Books}
use Rattle.cfdp_transactions.proofs.KeptTable.Answering.{plain_end}
use Rattle.cfdp_transactions.proofs.Received.RangeSteps.{all_is_whole}
use Rattle.cfdp_transactions.proofs.KeptTable.EntryChanged.{kept_entry}
use Rattle.std.proofs.Math.Bool.{or-true}
use Rattle.cfdp_transactions.proofs.Received.Writing.{length-received}

pub eof_fault : (W V : World) (k : ℕ) (eof : Eof) (e : Entry) → slice_get W.table k ≡ Some e → is_live e.phase ≡ true → (eof.condition == 0) ≡ false →
    EndsAt W V k true eof.condition →
    eof_came W k eof (Some e) ≡ (V, Reply.Faulted eof.condition)
eof_fault W V k eof e at live fault ended = let is = ended e at in rw (live, fault, rw (or-true e.ended_by_eof) at is) refl

pub eof_again : (W : World) (k : ℕ) (eof : Eof) (e : Entry) → is_live e.phase ≡ true → (eof.condition == 0) ≡ true → is_receiving e.phase ≡ false →
    eof_came W k eof (Some e) ≡ (W, Reply.Duplicate)
eof_again W k eof e live good later = rw (live, good, later) refl

pub eof_first : (W : World) (k : ℕ) (eof : Eof) (e : Entry) → is_live e.phase ≡ true → (eof.condition == 0) ≡ true → is_receiving e.phase ≡ true →
    eof_came W k eof (Some e) ≡ eof_without_error W k e eof
eof_first W k eof e live good receiving = rw (live, good, receiving) refl

pub eof_bare : (W V : World) (k : ℕ) (eof : Eof) (e : Entry) → slice_get W.table k ≡ Some e → (length e.items == 0) ≡ true → IsDoneAt W V k →
    eof_without_error W k e eof
    ≡ (V, Reply.Done)
eof_bare W V k eof e at bare done = rw (bare, done e at) refl

pub eof_no_file : (W V : World) (k : ℕ) (eof : Eof) (e : Entry) → slice_get W.table k ≡ Some e → (length e.items == 0) ≡ false → has_file e.metadata ≡ false →
    TurnsAt W V k (Executing 0) e.eof true →
    eof_without_error W k e eof ≡ (V, Reply.Complete)
eof_no_file W V k eof e at some none turned = rw (some, none, turned e at) refl

-- the EOF's size is outside what may be or what came
abbrev pub is_wrong_size : World → Eof → Entry → Bool
is_wrong_size W eof e = nat_lt (bound W.config e.metadata) eof.size || nat_lt eof.size (length e.received)

-- the tests of an entry with items and a file
abbrev by_size : (W : World) (k : ℕ) (e : Entry) (eof : Eof) (bare file wrong whole_now : Bool) → World × Reply
by_size W k e eof bare file wrong whole_now =
    if bare then (turns W k e Done e.eof true, Reply.Done)
    else if not file then (turns W k e (Executing 0) e.eof true, Reply.Complete)
    else if wrong then (ends W k e 6, Reply.Faulted 6)
    else if not whole_now then (turns W k e (Awaiting 0) (Some eof) e.complete, Reply.Waiting)
    else whole W k e eof.checksum

by_tests : (W : World) (k : ℕ) (e : Entry) (eof : Eof) (bare file wrong all : Bool) → (length e.items == 0) ≡ bare → has_file e.metadata ≡ file →
    is_wrong_size W eof e ≡ wrong → is_whole eof.size e.received ≡ all →
    eof_without_error W k e eof ≡ by_size W k e eof bare file wrong all
by_tests W k e eof bare file wrong all b f w a =
    ap (λ (x : Bool). by_size W k e eof x (has_file e.metadata) (is_wrong_size W eof e) (is_whole eof.size e.received)) b
    ∙ ap (λ (x : Bool). by_size W k e eof bare x (is_wrong_size W eof e) (is_whole eof.size e.received)) f
    ∙ ap (λ (x : Bool). by_size W k e eof bare file x (is_whole eof.size e.received)) w
    ∙ ap (λ (x : Bool). by_size W k e eof bare file wrong x) a

pub eof_size : (W V : World) (k : ℕ) (eof : Eof) (e : Entry) → slice_get W.table k ≡ Some e → (length e.items == 0) ≡ false → has_file e.metadata ≡ true →
    is_wrong_size W eof e ≡ true → EndsAt W V k false 6 →
    eof_without_error W k e eof ≡ (V, Reply.Faulted 6)
eof_size W V k eof e at some file wrong ended = by_tests W k e eof false true true (is_whole eof.size e.received) some file wrong refl
    ∙ ap (λ (X : World). (X, Reply.Faulted 6)) (sym (plain_end W V k 6 ended e at))

pub eof_waits : (W V : World) (k : ℕ) (eof : Eof) (e : Entry) → slice_get W.table k ≡ Some e → (length e.items == 0) ≡ false → has_file e.metadata ≡ true →
    is_wrong_size W eof e ≡ false →
    is_whole eof.size e.received ≡ false → TurnsAt W V k (Awaiting 0) (Some eof) e.complete → eof_without_error W k e eof ≡ (V, Reply.Waiting)
eof_waits W V k eof e at some file right missing turned = by_tests W k e eof false true false false some file right missing
    ∙ ap (λ (X : World). (X, Reply.Waiting)) (sym (turned e at))

pub eof_whole : (W : World) (k : ℕ) (eof : Eof) (e : Entry) → (length e.items == 0) ≡ false → has_file e.metadata ≡ true → is_wrong_size W eof e ≡ false →
    is_whole eof.size e.received ≡ true → eof_without_error W k e eof ≡ whole W k e eof.checksum
eof_whole W k eof e some file right all = by_tests W k e eof false true false true some file right all

-- what the entry's ranges and the staged list say of what was received ---------------------

module _ (s : Store) (b : Books) (sound : Sound (world_of s b)) (booked : IsBooked s b) (k : ℕ) (r : TableEntryFields) (at : slice_get b.table k ≡ Some r)
    (live : IsTrue (is_live r.phase)) where
  abbrev e : Entry
  e = entry_in s.filestore r

  abbrev xs : List ℕ
  xs = staged_in s.filestore r.slot

  is_received : e.received ≡ received_in r.ranges xs
  is_received = rw live refl

  pub received_size : length e.received ≡ length xs
  received_size = rw is_received (length-received 0 r.ranges xs)

  pub whole_entry : (size : ℕ) → is_whole size e.received ≡ is_all size r.ranges
  whole_entry size = rw is_received (all_is_whole size r.ranges xs (booked.pieces k r at live).pieces (booked.pieces k r at live).to_end)

  pub right_entry : (sum : ℕ) → is_right_checksum e sum ≡ ((r.metadata.checksum_type == 15) || (checksum xs == sum))
  right_entry sum = rw (← (kept_entry s b sound booked k r at live).staged) refl
