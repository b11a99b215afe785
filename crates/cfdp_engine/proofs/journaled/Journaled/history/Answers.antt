use Rattle.std.proofs.Common.{rules}
use Rattle.cfdp_engine.proofs.journaled.Journaled.history.Goals as goal

pub returns-clause-sound : goal.returns-clause-sound
returns-clause-sound g c = search rules
