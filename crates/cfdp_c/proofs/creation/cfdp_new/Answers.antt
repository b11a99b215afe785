use Rattle.std.proofs.Common.{rules}
use Rattle.cfdp_c.proofs.creation.cfdp_new.Goals as goal

pub returns-then-has_engine : goal.returns-then-has_engine
returns-then-has_engine c = search rules
