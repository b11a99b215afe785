use Rattle.cfdp_transactions.proofs.Received.OctetsAndGaps.{gaps_are_runs}
use Rattle.cfdp_transactions.proofs.laws.received.gaps_are_runs.Goals as goal

pub returns : goal.returns
returns c = gaps_are_runs
