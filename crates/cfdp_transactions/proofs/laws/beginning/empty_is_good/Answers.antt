use Rattle.cfdp_transactions.proofs.Beginnings.Starting.{empty_good}
use Rattle.cfdp_transactions.proofs.laws.beginning.empty_is_good.Goals as goal

pub returns : goal.returns
returns c = empty_good
