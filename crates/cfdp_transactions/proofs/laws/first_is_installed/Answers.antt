use Rattle.cfdp_transactions.proofs.Promises.InstallReplies as replies
use Rattle.cfdp_transactions.proofs.laws.first_is_installed.Goals as goal

pub returns : goal.returns
returns c = replies.first_is_installed c.lower_laws.ensures
