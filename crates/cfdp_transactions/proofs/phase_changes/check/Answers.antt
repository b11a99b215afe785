use Rattle.std.proofs.Common.{◌≡◌, refl, arith}
use Rattle.cfdp_transactions.specs.Entry.{Awaiting}
use Rattle.cfdp_transactions.proofs.KeptTable.Answering.{live_at, entry_is, phase_is, check_fault, check_wait}
use Rattle.cfdp_transactions.proofs.phase_changes.check.Goals as goal

pub end-requires-clause-live : goal.end-requires-clause-live
end-requires-clause-live g c =
    let phase : c.at-entry.result.now.phase ≡ Awaiting c.in-Awaiting.checks = cc in
    live_at (g.S.Filestore.state c.args.store.now) c.args.books.now c.args.index c.at-entry.result.now c.at-entry.ensures (rw phase refl)

pub turn-requires-clause-live : goal.turn-requires-clause-live
turn-requires-clause-live g c =
    let phase : c.at-entry.result.now.phase ≡ Awaiting c.in-Awaiting.checks = cc in
    live_at (g.S.Filestore.state c.args.store.now) c.args.books.now c.args.index c.at-entry.result.now c.at-entry.ensures (rw phase refl)

pub returns-then-checks-saturating_sub-clause-answer : goal.returns-then-checks-saturating_sub-clause-answer
returns-then-checks-saturating_sub-clause-answer g c = λ e there.
    let phase : c.at-entry.result.now.phase ≡ Awaiting c.in-Awaiting.checks = cc in
    let is = phase_is (g.S.Filestore.state c.args.store.now) c.args.books.now c.args.index c.at-entry.result.now c.at-entry.ensures e there
    (Awaiting c.in-Awaiting.checks) phase in
    check_fault _ _ c.args.index e c.in-Awaiting.checks there is (omega arith) c.end.ensures.ends

pub returns-clause-answer : goal.returns-clause-answer
returns-clause-answer g c = λ e there.
    let phase : c.at-entry.result.now.phase ≡ Awaiting c.in-Awaiting.checks = cc in
    let same = entry_is (g.S.Filestore.state c.args.store.now) c.args.books.now c.args.index c.at-entry.result.now c.at-entry.ensures e there in
    let turned = rw (c.eof-eof.ensures, c.is_complete-complete.ensures) at c.turn.ensures.turns in
    check_wait _ _ c.args.index e c.in-Awaiting.checks there (rw same phase) (omega arith) (rw same turned)
