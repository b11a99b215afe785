use Rattle.cfdp_transactions.proofs.Promises.AddedAndTaken as entries
use Rattle.cfdp_transactions.proofs.laws.take_keeps.Goals as goal

pub returns : goal.returns
returns c = entries.take_keeps
