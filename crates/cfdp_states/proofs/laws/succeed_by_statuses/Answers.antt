use Rattle.cfdp_states.proofs.Appending.{succeed_by_statuses}
use Rattle.cfdp_states.proofs.laws.succeed_by_statuses.Goals as goal

pub returns : goal.returns
returns c = succeed_by_statuses
