use Rattle.std.proofs.Common.{length}
use Rattle.cfdp_branches.proofs.branch.Branch.+swap.Given as goal

-- each call has one name less
abbrev pub decreases-swap : goal.decreases-swap
decreases-swap g l = length l.names
