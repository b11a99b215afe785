use Rattle.cfdp_receiver.proofs.TurnShapes.{sources_are_apart as proved}
use Rattle.cfdp_receiver.proofs.laws.sources_are_apart.Goals as goal

pub returns : goal.returns
returns c = proved
