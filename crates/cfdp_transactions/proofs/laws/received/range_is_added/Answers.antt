use Rattle.cfdp_transactions.proofs.Received.Writing.{range_is_added}
use Rattle.cfdp_transactions.proofs.laws.received.range_is_added.Goals as goal

pub returns : goal.returns
returns c = range_is_added
