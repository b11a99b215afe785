use Rattle.cfdp_transactions.proofs.Promises.Promise.{next_promised}
use Rattle.cfdp_transactions.proofs.laws.next_is_promised.Goals as goal

pub returns : goal.returns
returns c = λ W event s. next_promised c.lower_laws.ensures W s event
