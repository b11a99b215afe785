use Rattle.cfdp_states.proofs.Appending.{appended}
use Rattle.cfdp_states.proofs.laws.appended.Goals as goal

pub returns : goal.returns
returns c = appended
