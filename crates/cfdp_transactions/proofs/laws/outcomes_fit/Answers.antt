use Rattle.cfdp_transactions.proofs.Promises.Outgoing.{outcomes_fit}
use Rattle.cfdp_transactions.proofs.laws.outcomes_fit.Goals as goal

pub returns : goal.returns
returns c = outcomes_fit
