use Rattle.cfdp_transactions.proofs.Promises.AddedAndTaken as entries
use Rattle.cfdp_transactions.proofs.laws.only_metadata_adds.Goals as goal

pub returns : goal.returns
returns c = entries.only_metadata_adds c.lower_laws.ensures
