use Rattle.std.proofs.Common.{rules}
use Rattle.cfdp_c.proofs.creation.cfdp_free.Goals as goal

pub returns-in-None-clause-answer : goal.returns-in-None-clause-answer
returns-in-None-clause-answer c = search rules
