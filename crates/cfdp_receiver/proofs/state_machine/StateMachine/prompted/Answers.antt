use Rattle.std.proofs.Common.{sym, subst}
use Rattle.cfdp_status.specs.declared.transaction.TransactionId.{TransactionId}
use Rattle.cfdp_transactions.specs.World.{entry_of}
use Rattle.cfdp_receiver.specs.code.StateMachine.{IsTaking}
use Rattle.cfdp_receiver.proofs.TakesFileData.{taking}
use Rattle.cfdp_receiver.proofs.state_machine.StateMachine.prompted.Goals as goal

pub with_keep_alive-requires-clause-sized : goal.with_keep_alive-requires-clause-sized
with_keep_alive-requires-clause-sized c =
    let R = c.args.self.now.state in
    let s = c.args.session.now in
    c.progress-progress.ensures.sized
    (subst (λ (id : TransactionId). IsTaking (entry_of R.world id)) (sym c.name.ensures) (taking R s c.requires.known c.requires.found c.requires.takes))
    c.turned.result.large
