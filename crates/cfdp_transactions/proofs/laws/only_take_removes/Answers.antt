use Rattle.cfdp_transactions.proofs.Promises.AddedAndTaken as entries
use Rattle.cfdp_transactions.proofs.laws.only_take_removes.Goals as goal

pub returns : goal.returns
returns c = entries.only_take_removes c.lower_laws.ensures
