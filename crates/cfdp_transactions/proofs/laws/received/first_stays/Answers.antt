use Rattle.cfdp_transactions.proofs.Received.OctetsAndGaps.{first_stays}
use Rattle.cfdp_transactions.proofs.laws.received.first_stays.Goals as goal

pub returns : goal.returns
returns c = first_stays
