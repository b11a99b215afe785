use Rattle.std.proofs.Common.{length}
use Rattle.cfdp_branches.proofs.branch.Branch.+open.Given as goal

-- each call has one name less
abbrev pub decreases-open : goal.decreases-open
decreases-open g l = length l.names
