use Rattle.std.proofs.Common.{rules}
use Rattle.cfdp_c.proofs.events.cfdp_step.Goals as goal

pub returns : goal.returns
returns c = search rules
