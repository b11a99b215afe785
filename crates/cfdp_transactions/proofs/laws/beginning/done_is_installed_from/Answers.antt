use Rattle.cfdp_transactions.proofs.Promises.Installed.{done_from}
use Rattle.cfdp_transactions.proofs.laws.beginning.done_is_installed_from.Goals as goal

pub returns : goal.returns
returns c = done_from
