use Rattle.cfdp_transactions.proofs.Received.OctetsAndGaps.{greatest_end}
use Rattle.cfdp_transactions.proofs.laws.received.greatest_end.Goals as goal

pub returns : goal.returns
returns c = greatest_end
