use Rattle.cfdp_transactions.proofs.Received.Writing.{whole_has_none}
use Rattle.cfdp_transactions.proofs.laws.received.whole_has_none.Goals as goal

pub returns : goal.returns
returns c = whole_has_none
