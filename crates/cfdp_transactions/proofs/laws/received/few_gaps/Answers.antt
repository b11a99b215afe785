use Rattle.cfdp_transactions.proofs.Received.OctetsAndGaps.{few_gaps}
use Rattle.cfdp_transactions.proofs.laws.received.few_gaps.Goals as goal

pub returns : goal.returns
returns c = few_gaps
