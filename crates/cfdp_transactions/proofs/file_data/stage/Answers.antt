use Rattle.std.proofs.Common.{◌≡◌, ap, arith}
use Rattle.std.specs.Prelude.{length, ◌+◌}
use Rattle.std.proofs.lemmas.Option.{slice_get_within}
use Rattle.cfdp_pdus.specs.Values.{FileDataFields}
use Rattle.cfdp_transactions.proofs.KeptTable.DataStored.{live, kept_is, pieces_here, zeros_here, room, reserved, can_store, stored_at, stored_sound, stored_booked}
use Rattle.cfdp_transactions.proofs.KeptTable.EntryChanged.{slot_below}
use Rattle.cfdp_transactions.proofs.file_data.stage.Goals as goal

pub keep-requires-clause-slot : goal.keep-requires-clause-slot
keep-requires-clause-slot g c =
    let s = g.S.Filestore.state c.args.store.now in
    let b = c.args.books.now in
    let k = c.args.index in
    let r = c.at-entry.result.now in
    let at = c.at-entry.ensures in
    let p = c.args.piece.now in
    rw c.slot-slot.ensures (slot_below s b c.requires.sound c.requires.booked k r at (live s b c.requires.sound c.requires.booked k r at p c.requires.taken))

pub keep-requires-clause-some : goal.keep-requires-clause-some
keep-requires-clause-some g c =
    let s = g.S.Filestore.state c.args.store.now in
    let b = c.args.books.now in
    let k = c.args.index in
    let r = c.at-entry.result.now in
    let at = c.at-entry.ensures in
    let p = c.args.piece.now in
    let offset : c.piece.inside.offset ≡ p.offset = ap (λ (q : FileDataFields). q.offset) c.piece.view_is in
    let octets : c.piece.inside.octets.now ≡ p.octets = ap (λ (q : FileDataFields). q.octets) c.piece.view_is in
    rw octets c.requires.taken.2.some

pub keep-requires-clause-within : goal.keep-requires-clause-within
keep-requires-clause-within g c =
    let s = g.S.Filestore.state c.args.store.now in
    let b = c.args.books.now in
    let k = c.args.index in
    let r = c.at-entry.result.now in
    let at = c.at-entry.ensures in
    let p = c.args.piece.now in
    let offset : c.piece.inside.offset ≡ p.offset = ap (λ (q : FileDataFields). q.offset) c.piece.view_is in
    let octets : c.piece.inside.octets.now ≡ p.octets = ap (λ (q : FileDataFields). q.octets) c.piece.view_is in
    rw (offset, octets) c.requires.fits

pub keep-requires-clause-pieces : goal.keep-requires-clause-pieces
keep-requires-clause-pieces g c =
    let s = g.S.Filestore.state c.args.store.now in
    let b = c.args.books.now in
    let k = c.args.index in
    let r = c.at-entry.result.now in
    let at = c.at-entry.ensures in
    let p = c.args.piece.now in
    rw (c.slot-slot.ensures, c.ranges-2.ensures) (pieces_here s b c.requires.sound c.requires.booked k r at p c.requires.taken)

pub keep-requires-clause-zeros : goal.keep-requires-clause-zeros
keep-requires-clause-zeros g c =
    let s = g.S.Filestore.state c.args.store.now in
    let b = c.args.books.now in
    let k = c.args.index in
    let r = c.at-entry.result.now in
    let at = c.at-entry.ensures in
    let p = c.args.piece.now in
    rw (c.slot-slot.ensures, c.ranges-2.ensures) (zeros_here s b c.requires.sound c.requires.booked k r at p c.requires.taken)

pub keep-requires-clause-room : goal.keep-requires-clause-room
keep-requires-clause-room g c =
    let s = g.S.Filestore.state c.args.store.now in
    let b = c.args.books.now in
    let k = c.args.index in
    let r = c.at-entry.result.now in
    let at = c.at-entry.ensures in
    let p = c.args.piece.now in
    let offset : c.piece.inside.offset ≡ p.offset = ap (λ (q : FileDataFields). q.offset) c.piece.view_is in
    let octets : c.piece.inside.octets.now ≡ p.octets = ap (λ (q : FileDataFields). q.octets) c.piece.view_is in
    rw (c.slot-slot.ensures, offset, octets) (room s b c.requires.sound c.requires.booked k r at p c.requires.taken)

pub took-requires-clause-slot : goal.took-requires-clause-slot
took-requires-clause-slot g c =
    let s = g.S.Filestore.state c.args.store.now in
    let b = c.args.books.now in
    let k = c.args.index in
    let r = c.at-entry.result.now in
    let at = c.at-entry.ensures in
    let p = c.args.piece.now in
    rw c.slot-slot.ensures (slot_below s b c.requires.sound c.requires.booked k r at (live s b c.requires.sound c.requires.booked k r at p c.requires.taken))

pub took-requires-clause-reserved : goal.took-requires-clause-reserved
took-requires-clause-reserved g c =
    let s = g.S.Filestore.state c.args.store.now in
    let b = c.args.books.now in
    let k = c.args.index in
    let r = c.at-entry.result.now in
    let at = c.at-entry.ensures in
    let p = c.args.piece.now in
    let offset : c.piece.inside.offset ≡ p.offset = ap (λ (q : FileDataFields). q.offset) c.piece.view_is in
    let octets : c.piece.inside.octets.now ≡ p.octets = ap (λ (q : FileDataFields). q.octets) c.piece.view_is in
    let whole = kept_is s b c.requires.sound c.requires.booked k r at p c.requires.taken in
    let taken = rw whole at (rw (c.slot-slot.ensures, c.ranges-2.ensures, offset, octets) at c.in_ok-taken.ensures.taken) in
    rw c.slot-slot.ensures (reserved s b c.requires.sound c.requires.booked k r at p c.requires.taken _ taken)

pub overflow_add-end : goal.overflow_add-end
overflow_add-end g c =
    let s = g.S.Filestore.state c.args.store.now in
    let b = c.args.books.now in
    let k = c.args.index in
    let r = c.at-entry.result.now in
    let at = c.at-entry.ensures in
    let p = c.args.piece.now in
    let offset : c.piece.inside.offset ≡ p.offset = ap (λ (q : FileDataFields). q.offset) c.piece.view_is in
    let octets : c.piece.inside.octets.now ≡ p.octets = ap (λ (q : FileDataFields). q.octets) c.piece.view_is in
    let to : c.piece.inside.offset + length c.piece.inside.octets.now ≡ p.offset + length p.octets =
    omega (arith, offset, ap (λ (q : FileDataFields). length q.octets) c.piece.view_is) in
    omega (arith, to, c.requires.fits)

pub store-requires-clause-fits : goal.store-requires-clause-fits
store-requires-clause-fits g c =
    let s = g.S.Filestore.state c.args.store.now in
    let b = c.args.books.now in
    let k = c.args.index in
    let r = c.at-entry.result.now in
    let at = c.at-entry.ensures in
    let p = c.args.piece.now in
    let offset : c.piece.inside.offset ≡ p.offset = ap (λ (q : FileDataFields). q.offset) c.piece.view_is in
    let octets : c.piece.inside.octets.now ≡ p.octets = ap (λ (q : FileDataFields). q.octets) c.piece.view_is in
    let to : c.piece.inside.offset + length c.piece.inside.octets.now ≡ p.offset + length p.octets =
    omega (arith, offset, ap (λ (q : FileDataFields). length q.octets) c.piece.view_is) in
    rw (at, to, offset) ((can_store s b c.requires.sound c.requires.booked k r at p c.requires.taken))

pub returns-clause-stored : goal.returns-clause-stored
returns-clause-stored g c =
    let s = g.S.Filestore.state c.args.store.now in
    let b = c.args.books.now in
    let k = c.args.index in
    let r = c.at-entry.result.now in
    let at = c.at-entry.ensures in
    let p = c.args.piece.now in
    let offset : c.piece.inside.offset ≡ p.offset = ap (λ (q : FileDataFields). q.offset) c.piece.view_is in
    let octets : c.piece.inside.octets.now ≡ p.octets = ap (λ (q : FileDataFields). q.octets) c.piece.view_is in
    let whole = kept_is s b c.requires.sound c.requires.booked k r at p c.requires.taken in
    let taken = rw whole at (rw (c.slot-slot.ensures, c.ranges-2.ensures, offset, octets) at c.in_ok-taken.ensures.taken) in
    let state = rw whole at (rw (c.slot-slot.ensures, c.ranges-2.ensures, offset, octets) at c.in_ok-taken.ensures.kept) in
    let ranges = rw whole at (rw (c.slot-slot.ensures, c.ranges-2.ensures, offset, octets) at c.in_ok-taken.ensures.ranges) in
    let to : c.piece.inside.offset + length c.piece.inside.octets.now ≡ p.offset + length p.octets =
    omega (arith, offset, ap (λ (q : FileDataFields). length q.octets) c.piece.view_is) in
    rw (c.store.ensures r at, to, offset) (stored_at s b c.requires.sound c.requires.booked k r at p c.requires.taken
    (g.S.Filestore.state c.keep.new.store) c.in_ok-taken.taken state ranges taken c.took.new.self)

pub returns-clause-sound : goal.returns-clause-sound
returns-clause-sound g c =
    let s = g.S.Filestore.state c.args.store.now in
    let b = c.args.books.now in
    let k = c.args.index in
    let r = c.at-entry.result.now in
    let at = c.at-entry.ensures in
    let p = c.args.piece.now in
    let offset : c.piece.inside.offset ≡ p.offset = ap (λ (q : FileDataFields). q.offset) c.piece.view_is in
    let octets : c.piece.inside.octets.now ≡ p.octets = ap (λ (q : FileDataFields). q.octets) c.piece.view_is in
    let whole = kept_is s b c.requires.sound c.requires.booked k r at p c.requires.taken in
    let taken = rw whole at (rw (c.slot-slot.ensures, c.ranges-2.ensures, offset, octets) at c.in_ok-taken.ensures.taken) in
    let state = rw whole at (rw (c.slot-slot.ensures, c.ranges-2.ensures, offset, octets) at c.in_ok-taken.ensures.kept) in
    let ranges = rw whole at (rw (c.slot-slot.ensures, c.ranges-2.ensures, offset, octets) at c.in_ok-taken.ensures.ranges) in
    let to : c.piece.inside.offset + length c.piece.inside.octets.now ≡ p.offset + length p.octets =
    omega (arith, offset, ap (λ (q : FileDataFields). length q.octets) c.piece.view_is) in
    rw (c.store.ensures r at, to, offset) (stored_sound s b c.requires.sound c.requires.booked k r at p c.requires.taken
    (g.S.Filestore.state c.keep.new.store) c.in_ok-taken.taken state ranges taken c.requires.laws c.took.new.self)

pub returns-clause-booked : goal.returns-clause-booked
returns-clause-booked g c =
    let s = g.S.Filestore.state c.args.store.now in
    let b = c.args.books.now in
    let k = c.args.index in
    let r = c.at-entry.result.now in
    let at = c.at-entry.ensures in
    let p = c.args.piece.now in
    let offset : c.piece.inside.offset ≡ p.offset = ap (λ (q : FileDataFields). q.offset) c.piece.view_is in
    let octets : c.piece.inside.octets.now ≡ p.octets = ap (λ (q : FileDataFields). q.octets) c.piece.view_is in
    let whole = kept_is s b c.requires.sound c.requires.booked k r at p c.requires.taken in
    let taken = rw whole at (rw (c.slot-slot.ensures, c.ranges-2.ensures, offset, octets) at c.in_ok-taken.ensures.taken) in
    let state = rw whole at (rw (c.slot-slot.ensures, c.ranges-2.ensures, offset, octets) at c.in_ok-taken.ensures.kept) in
    let ranges = rw whole at (rw (c.slot-slot.ensures, c.ranges-2.ensures, offset, octets) at c.in_ok-taken.ensures.ranges) in
    let to : c.piece.inside.offset + length c.piece.inside.octets.now ≡ p.offset + length p.octets =
    omega (arith, offset, ap (λ (q : FileDataFields). length q.octets) c.piece.view_is) in
    rw (c.store.ensures r at, to, offset) (stored_booked s b c.requires.sound c.requires.booked k r at p c.requires.taken
    (g.S.Filestore.state c.keep.new.store) c.in_ok-taken.taken state ranges taken c.took.new.self
    (rw c.slot-slot.ensures at c.took.ensures.taken) c.took.ensures.spare)

pub store-requires-clause-within : goal.store-requires-clause-within
store-requires-clause-within g c = slice_get_within c.args.books.now.table c.args.index c.at-entry.result.now c.at-entry.ensures
