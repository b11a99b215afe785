use Rattle.cfdp_transactions.proofs.Promises.InstallReplies.{first_from}
use Rattle.cfdp_transactions.proofs.laws.beginning.first_is_installed_from.Goals as goal

pub returns : goal.returns
returns c = first_from c.lower_laws.ensures
