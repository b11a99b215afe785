use Rattle.std.proofs.Common.{◌+◌, ◌*◌, ◌-◌}
use Rattle.cfdp_tree.proofs.walk.+deepest_in.Given as goal

abbrev pub decreases-deepest_in : goal.decreases-deepest_in
decreases-deepest_in l = (9 - l.depth) * 23 + l.order.height
