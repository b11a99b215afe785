use Rattle.std.proofs.Common.{sym, ap, ◌∙◌}
use Rattle.std.specs.Prelude.{IsFalse}
use Rattle.cfdp_transactions.specs.Entry.{is_live}
use Rattle.cfdp_transactions.proofs.KeptTable.WorldOfTable.{table_entry_at}
use Rattle.cfdp_transactions.specs.code.TableEntries.{entry_in}
use Rattle.cfdp_transactions.proofs.KeptTable.EntryTakenOut.{taken_answer, taken_booked}
use Rattle.cfdp_transactions.proofs.taken_outcome.hand_out.Goals as goal

pub returns-clause-answer : goal.returns-clause-answer
returns-clause-answer g c =
    let s = g.S.Filestore.state c.args.store.now in
    let b = c.args.books.now in
    let table_entry = c.at.result.now in
    let over : IsFalse (is_live table_entry.phase) = sym (c.is_live.ensures ∙ ap is_live c.phase.ensures) ∙ c.if-is_live.false in
    let there = table_entry_at s.filestore b.table c.args.index table_entry c.at.ensures in
    let made = c.in-Ok.ensures ∙ c.requires.made (entry_in s.filestore table_entry) there over in
    rw c.forget.ensures (taken_answer s b c.requires.booked c.args.index table_entry c.at.ensures over c.in-Ok.shared made)

pub returns-clause-booked : goal.returns-clause-booked
returns-clause-booked g c =
    let s = g.S.Filestore.state c.args.store.now in
    let over : IsFalse (is_live c.at.result.now.phase) = sym (c.is_live.ensures ∙ ap is_live c.phase.ensures) ∙ c.if-is_live.false in
    rw c.forget.ensures (taken_booked s c.args.books.now c.requires.booked c.args.index c.at.result.now c.at.ensures over)
