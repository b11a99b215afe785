use Rattle.std.proofs.Common.{length}
use Rattle.cfdp_branches.proofs.branch.Branch.+prune.Given as goal

-- each call has one name less
abbrev pub decreases-prune : goal.decreases-prune
decreases-prune g l = length l.names
