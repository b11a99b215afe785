use Rattle.std.proofs.Common.{rules}
use Rattle.cfdp_c.proofs.reads.phase_fields.Goals as goal

pub returns-in-Done : goal.returns-in-Done
returns-in-Done c = search rules
