use Rattle.std.proofs.Common.{length}
use Rattle.cfdp.proofs.disturb.DisturbScript.take.Given as goal

abbrev pub decreases-lines : goal.decreases-lines
decreases-lines g l = length l.rest
