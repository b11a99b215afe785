use Rattle.std.proofs.Common.{sym, subst}
use Rattle.cfdp_status.specs.declared.transaction.TransactionId.{TransactionId}
use Rattle.cfdp_transactions.specs.World.{entry_of}
use Rattle.cfdp_receiver.specs.code.StateMachine.{IsTaking}
use Rattle.cfdp_receiver.proofs.FinishedSentAtMost.{alive_due}
use Rattle.cfdp_receiver.proofs.DueTimers.{alive_is_taking}
use Rattle.cfdp_receiver.proofs.state_machine.StateMachine.keeps_alive.Goals as goal

pub with_keep_alive-requires-clause-sized : goal.with_keep_alive-requires-clause-sized
with_keep_alive-requires-clause-sized c =
    let R = c.args.self.now.state in
    let s = c.session-session.result.now in
    let alive = alive_due R R.sessions s (c.requires.due s c.session-session.ensures) in
    let taking = subst (λ (id : TransactionId). IsTaking (entry_of R.world id)) (sym c.name-id.ensures) (alive_is_taking R s alive.1) in
    c.progress-progress.ensures.sized taking c.turned-header.result.large
