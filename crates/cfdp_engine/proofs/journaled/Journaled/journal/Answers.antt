use Rattle.std.proofs.Common.{rules}
use Rattle.cfdp_engine.proofs.journaled.Journaled.journal.Goals as goal

pub returns : goal.returns
returns g c = search rules
