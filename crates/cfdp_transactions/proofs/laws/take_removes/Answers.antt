use Rattle.cfdp_transactions.proofs.Promises.AddedAndTaken as entries
use Rattle.cfdp_transactions.proofs.laws.take_removes.Goals as goal

pub returns : goal.returns
returns c = entries.take_removes c.lower_laws.ensures
