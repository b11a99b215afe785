use Rattle.cfdp_receiver.proofs.Acknowledging.{none_after_ack as proved}
use Rattle.cfdp_receiver.proofs.laws.none_after_ack.Goals as goal

pub returns : goal.returns
returns c = proved
