use Rattle.cfdp_receiver.proofs.Delivering.{answered_is_delivered as proved}
use Rattle.cfdp_receiver.proofs.laws.answered_is_delivered.Goals as goal

pub returns : goal.returns
returns c = proved
