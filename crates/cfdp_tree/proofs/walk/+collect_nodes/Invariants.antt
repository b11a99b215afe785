use Rattle.std.proofs.Common.{◌+◌, ◌*◌, ◌-◌}
use Rattle.cfdp_tree.proofs.walk.+collect_nodes.Given as goal

abbrev pub decreases-collect_nodes : goal.decreases-collect_nodes
decreases-collect_nodes l = (9 - l.depth) * 23 + l.order.height
