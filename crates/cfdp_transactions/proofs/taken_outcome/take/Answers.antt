use Rattle.std.proofs.Common.{sym, ap, ◌∙◌}
use Rattle.std.specs.Prelude.{IsFalse}
use Rattle.cfdp_transactions.specs.Entry.{is_live}
use Rattle.cfdp_transactions.proofs.KeptTable.EntryTakenOut.{taken_answer, taken_booked}
use Rattle.cfdp_transactions.proofs.taken_outcome.take.Goals as goal

pub returns-clause-answer : goal.returns-clause-answer
returns-clause-answer g c =
    let s = g.S.Filestore.state c.args.store.now in
    let over : IsFalse (is_live c.at-entry.result.now.phase) = sym (c.is_live.ensures ∙ ap is_live c.phase.ensures) ∙ c.if-is_live.false in
    let made = c.in-Ok.ensures.outcome s.filestore in
    rw c.forget.ensures (taken_answer s c.args.books.now c.requires.booked c.args.index c.at-entry.result.now c.at-entry.ensures over c.in-Ok.outcome made)

pub returns-clause-booked : goal.returns-clause-booked
returns-clause-booked g c =
    let s = g.S.Filestore.state c.args.store.now in
    let over : IsFalse (is_live c.at-entry.result.now.phase) = sym (c.is_live.ensures ∙ ap is_live c.phase.ensures) ∙ c.if-is_live.false in
    rw c.forget.ensures (taken_booked s c.args.books.now c.requires.booked c.args.index c.at-entry.result.now c.at-entry.ensures over)
