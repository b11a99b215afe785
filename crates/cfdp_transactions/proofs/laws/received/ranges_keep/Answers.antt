use Rattle.cfdp_transactions.proofs.Received.Writing.{ranges_keep}
use Rattle.cfdp_transactions.proofs.laws.received.ranges_keep.Goals as goal

pub returns : goal.returns
returns c = ranges_keep
