use Rattle.cfdp_order.proofs.HeightLaws.{within_links, few_nodes}
use Rattle.cfdp_order.proofs.laws.nodes_within.Goals as goal

pub returns : goal.returns
returns c links order is = (within_links is.tree, few_nodes links order is)
