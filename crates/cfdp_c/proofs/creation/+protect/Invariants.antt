use Rattle.std.proofs.Common.{length}
use Rattle.cfdp_c.proofs.creation.+protect.Given as goal

-- proposed from what the function passes where it calls itself
abbrev pub decreases-protect : goal.decreases-protect
decreases-protect l = length l.prefixes.now
