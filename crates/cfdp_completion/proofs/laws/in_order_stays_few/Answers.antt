use Rattle.cfdp_completion.proofs.Ordering.{in_order_few}
use Rattle.cfdp_completion.proofs.laws.in_order_stays_few.Goals as goal

pub returns : goal.returns
returns c = in_order_few
