use Rattle.cfdp_receiver.proofs.Distinct.{are_apart as proved}
use Rattle.cfdp_receiver.proofs.laws.are_apart.Goals as goal

pub returns : goal.returns
returns c = proved
