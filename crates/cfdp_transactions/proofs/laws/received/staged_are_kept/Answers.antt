use Rattle.cfdp_transactions.proofs.Received.Writing.{staged_are_kept}
use Rattle.cfdp_transactions.proofs.laws.received.staged_are_kept.Goals as goal

pub returns : goal.returns
returns c = staged_are_kept
