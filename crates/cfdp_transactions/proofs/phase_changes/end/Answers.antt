use Rattle.std.proofs.Common.{arith}
use Rattle.std.proofs.lemmas.Option.{slice_get_within}
use Rattle.cfdp_transactions.proofs.KeptTable.EntryChanged.{live_entry, slot_below, least_spent, most_spent, in_use, blocks-unstaged}
use Rattle.cfdp_transactions.proofs.KeptTable.EntryEnded.{ended_world, ended_booked}
use Rattle.cfdp_transactions.proofs.phase_changes.end.Goals as goal

pub gave-requires-clause-used : goal.gave-requires-clause-used
gave-requires-clause-used g c =
    let s = g.S.Filestore.state c.args.store.now in
    let b = c.args.books.now in
    let r = c.at-entry.result.now in
    let at = c.at-entry.ensures in
    let live = live_entry s b c.args.index r c.requires.live at in
    let given = rw c.slot-slot.ensures at c.unstage-given.ensures.ticks in
    omega (
      arith,
      given,
      in_use s b c.requires.sound c.requires.booked c.args.index r at live,
      blocks-unstaged s b c.requires.sound c.requires.booked c.args.index r at live,
    )

pub close-requires : goal.close-requires
close-requires g c =
    let s = g.S.Filestore.state c.args.store.now in
    let b = c.args.books.now in
    let r = c.at-entry.result.now in
    let at = c.at-entry.ensures in
    rw c.slot-slot.ensures (slot_below s b c.requires.sound c.requires.booked c.args.index r at (live_entry s b c.args.index r c.requires.live at))

pub end-requires-clause-within : goal.end-requires-clause-within
end-requires-clause-within g c = slice_get_within _ _ _ c.at-entry.ensures

pub end-requires-clause-least : goal.end-requires-clause-least
end-requires-clause-least g c =
    let s = g.S.Filestore.state c.args.store.now in
    let b = c.args.books.now in
    let r = c.at-entry.result.now in
    let at = c.at-entry.ensures in
    rw at (least_spent s b c.requires.sound c.requires.booked c.args.index r at (live_entry s b c.args.index r c.requires.live at))

pub end-requires-clause-most : goal.end-requires-clause-most
end-requires-clause-most g c =
    let s = g.S.Filestore.state c.args.store.now in
    let b = c.args.books.now in
    let r = c.at-entry.result.now in
    let at = c.at-entry.ensures in
    rw at (most_spent s b c.requires.sound c.requires.booked c.args.index r at (live_entry s b c.args.index r c.requires.live at))

pub returns-clause-ends : goal.returns-clause-ends
returns-clause-ends g c =
    let s = g.S.Filestore.state c.args.store.now in
    let b = c.args.books.now in
    let r = c.at-entry.result.now in
    let at = c.at-entry.ensures in
    let given = rw c.slot-slot.ensures at c.unstage-given.ensures.ticks in
    rw (c.unstage-given.ensures.dropped, c.slot-slot.ensures, c.end.ensures r at)
    (ended_world s b c.requires.sound c.requires.booked c.args.index r at (live_entry s b c.args.index r c.requires.live at) c.args.condition c.args.by_eof
    c.unstage-given.result given)

pub returns-clause-booked : goal.returns-clause-booked
returns-clause-booked g c =
    let s = g.S.Filestore.state c.args.store.now in
    let b = c.args.books.now in
    let r = c.at-entry.result.now in
    let at = c.at-entry.ensures in
    let given = rw c.slot-slot.ensures at c.unstage-given.ensures.ticks in
    let gave = rw c.slot-slot.ensures at c.gave.ensures.given in
    let close = rw c.slot-slot.ensures at c.close.ensures.closed in
    let back = rw c.slot-slot.ensures at c.close.ensures.spare in
    rw (c.unstage-given.ensures.dropped, c.slot-slot.ensures, c.end.ensures r at, c.release.ensures, c.name-transaction.ensures)
    (ended_booked s b c.requires.sound c.requires.booked c.args.index r at
    (live_entry s b c.args.index r c.requires.live at) c.args.condition c.args.by_eof c.unstage-given.result given
    c.gave.new.self c.close.new.self gave c.gave.ensures.spare close back)
