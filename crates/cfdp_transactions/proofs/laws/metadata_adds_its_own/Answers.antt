use Rattle.cfdp_transactions.proofs.Promises.AddedAndTaken as entries
use Rattle.cfdp_transactions.proofs.laws.metadata_adds_its_own.Goals as goal

pub returns : goal.returns
returns c = entries.metadata_adds_its_own c.lower_laws.ensures
