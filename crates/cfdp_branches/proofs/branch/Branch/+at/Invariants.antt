use Rattle.std.proofs.Common.{length}
use Rattle.cfdp_branches.proofs.branch.Branch.+at.Given as goal

-- each call has one name less
abbrev pub decreases-at : goal.decreases-at
decreases-at g l = length l.names
