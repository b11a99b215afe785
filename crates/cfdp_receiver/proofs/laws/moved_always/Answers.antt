use Rattle.cfdp_receiver.proofs.OwnTime.{moved_always}
use Rattle.cfdp_receiver.proofs.laws.moved_always.Goals as goal

pub returns : goal.returns
returns c = moved_always
