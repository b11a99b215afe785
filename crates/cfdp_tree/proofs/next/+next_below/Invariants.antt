use Rattle.std.proofs.Common.{length}
use Rattle.cfdp_tree.proofs.next.+next_below.Given as goal

abbrev pub decreases-next_below : goal.decreases-next_below
decreases-next_below l = length l.names
