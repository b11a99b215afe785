use Rattle.cfdp_transactions.proofs.KeptTable.EntryChanged.{live_entry}
use Rattle.cfdp_transactions.proofs.KeptTable.EntryTurned.{turned_world, turned_booked}
use Rattle.cfdp_transactions.proofs.phase_changes.turn.Goals as goal

pub returns-clause-turns : goal.returns-clause-turns
returns-clause-turns g c =
    let s = g.S.Filestore.state c.args.store.now in
    let b = c.args.books.now in
    let r = c.at-entry.result.now in
    let at = c.at-entry.ensures in
    rw (c.turn.ensures r at) (turned_world s b c.requires.sound c.requires.booked c.args.index r at
    (live_entry s b c.args.index r c.requires.live at) c.args.phase c.requires.still c.args.eof c.args.complete)

pub returns-clause-booked : goal.returns-clause-booked
returns-clause-booked g c =
    let s = g.S.Filestore.state c.args.store.now in
    let b = c.args.books.now in
    let r = c.at-entry.result.now in
    let at = c.at-entry.ensures in
    rw (c.turn.ensures r at) (turned_booked s b c.requires.sound c.requires.booked c.args.index r at
    (live_entry s b c.args.index r c.requires.live at) c.args.phase c.requires.still c.args.eof c.args.complete)
