use Rattle.cfdp_transactions.proofs.Promises.Outgoing.{fit_from}
use Rattle.cfdp_transactions.proofs.laws.beginning.outcomes_fit_from.Goals as goal

pub returns : goal.returns
returns c = fit_from
