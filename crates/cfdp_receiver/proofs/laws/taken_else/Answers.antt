use Rattle.cfdp_receiver.proofs.OwnTime.{taken_else}
use Rattle.cfdp_receiver.proofs.laws.taken_else.Goals as goal

pub returns : goal.returns
returns c = taken_else
