use Rattle.cfdp_order.proofs.TreeLaws.{none_is, no_nodes}
use Rattle.cfdp_order.proofs.laws.no_levels.Goals as goal

pub returns : goal.returns
returns c links order none = (none_is links order none, no_nodes links order none)
