use Rattle.std.specs.Prelude.{IsTrue}
use Rattle.cfdp_transactions.specs.Entry.{is_live}
use Rattle.cfdp_transactions.proofs.KeptTable.Answering.{live_at, entry_is, cancel_answer}
use Rattle.cfdp_transactions.proofs.phase_changes.cancel.Goals as goal

pub end-requires-clause-live : goal.end-requires-clause-live
end-requires-clause-live g c = live_at (g.S.Filestore.state c.args.store.now) c.args.books.now c.args.index c.at.result.now c.at.ensures (cc)

pub returns-clause-answer : goal.returns-clause-answer
returns-clause-answer g c = λ e there.
    let same = entry_is (g.S.Filestore.state c.args.store.now) c.args.books.now c.args.index c.at.result.now c.at.ensures e there in
    let live : IsTrue (is_live c.at.result.now.phase) = cc in
    cancel_answer _ _ c.args.index e there (rw same live) c.end.ensures.ends
