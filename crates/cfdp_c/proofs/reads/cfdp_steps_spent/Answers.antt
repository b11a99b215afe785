use Rattle.std.proofs.Common.{rules}
use Rattle.cfdp_c.proofs.reads.cfdp_steps_spent.Goals as goal

pub returns-clause-read : goal.returns-clause-read
returns-clause-read c = search rules
