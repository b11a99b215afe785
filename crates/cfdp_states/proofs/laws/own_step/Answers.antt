use Rattle.cfdp_states.proofs.NextItem.{own_step}
use Rattle.cfdp_states.proofs.laws.own_step.Goals as goal

pub returns : goal.returns
returns c = own_step
