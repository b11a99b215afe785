use Rattle.cfdp_order.proofs.HeightLaws.{least_in, few_levels}
use Rattle.cfdp_order.proofs.laws.few_levels.Goals as goal

pub returns : goal.returns
returns c links order is = (least_in is.tree, few_levels links order is)
