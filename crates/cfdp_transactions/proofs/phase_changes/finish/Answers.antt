use Rattle.cfdp_transactions.proofs.KeptTable.EntryChanged.{live_entry, slot_below}
use Rattle.cfdp_transactions.proofs.KeptTable.EntryDone.{finished_world, finished_booked}
use Rattle.cfdp_transactions.proofs.phase_changes.finish.Goals as goal

pub close-requires : goal.close-requires
close-requires g c =
    let s = g.S.Filestore.state c.args.store.now in
    let b = c.args.books.now in
    let r = c.at-entry.result.now in
    let at = c.at-entry.ensures in
    let live = live_entry s b c.args.index r c.requires.live at in
    rw c.slot-slot.ensures (slot_below s b c.requires.sound c.requires.booked c.args.index r at live)

pub returns-clause-done : goal.returns-clause-done
returns-clause-done g c =
    let s = g.S.Filestore.state c.args.store.now in
    let b = c.args.books.now in
    let r = c.at-entry.result.now in
    let at = c.at-entry.ensures in
    let live = live_entry s b c.args.index r c.requires.live at in
    rw (c.turn.ensures r at, c.eof-eof.ensures) (finished_world s b c.requires.sound c.requires.booked c.args.index r at live c.requires.bare)

pub returns-clause-booked : goal.returns-clause-booked
returns-clause-booked g c =
    let s = g.S.Filestore.state c.args.store.now in
    let b = c.args.books.now in
    let r = c.at-entry.result.now in
    let at = c.at-entry.ensures in
    let live = live_entry s b c.args.index r c.requires.live at in
    let close = rw c.slot-slot.ensures at c.close.ensures.closed in
    let back = rw c.slot-slot.ensures at c.close.ensures.spare in
    rw (c.turn.ensures r at, c.eof-eof.ensures, c.release.ensures, c.name-transaction.ensures)
    (finished_booked s b c.requires.sound c.requires.booked c.args.index r at live c.requires.bare c.close.new.self close back)
