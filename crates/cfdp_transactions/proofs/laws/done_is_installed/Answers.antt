use Rattle.cfdp_transactions.proofs.Promises.Installed as installed
use Rattle.cfdp_transactions.proofs.laws.done_is_installed.Goals as goal

pub returns : goal.returns
returns c = installed.done_is_installed
