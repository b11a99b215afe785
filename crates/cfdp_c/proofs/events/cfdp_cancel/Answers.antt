use Rattle.std.proofs.Common.{rules}
use Rattle.cfdp_c.proofs.events.cfdp_cancel.Goals as goal

pub returns : goal.returns
returns c = search rules
