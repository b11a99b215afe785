use Rattle.cfdp_transactions.proofs.Promises.AddedAndTaken as entries
use Rattle.cfdp_transactions.proofs.laws.other_entries_stay.Goals as goal

pub returns : goal.returns
returns c = entries.other_entries_stay c.lower_laws.ensures
