use Rattle.std.proofs.Common.{◌≡◌, [], refl}
use Rattle.cfdp_transactions.specs.code.TableEntries.{fresh_entry}
use Rattle.cfdp_transactions.proofs.KeptTable.EntryAdded.{final_booked}
use Rattle.cfdp_transactions.proofs.admission.add_final.Goals as goal

pub returns-in_err-push-clause-booked : goal.returns-in_err-push-clause-booked
returns-in_err-push-clause-booked g c = rw c.in_err-push.ensures.err c.requires.booked

pub returns-clause-booked : goal.returns-clause-booked
returns-clause-booked g c =
    let table_entry : c.new-entry.result ≡ fresh_entry c.args.header.now c.args.metadata c.args.phase 0 [] 0 0 = rw
    (c.new-entry.ensures, c.new.ensures.items) refl in
    rw (c.in_ok-push.ensures.ok, table_entry) (final_booked (g.S.Filestore.state c.args.store.now) c.args.books.now c.requires.booked c.args.header.now
    c.args.metadata
    c.args.phase c.requires.over)
