use Rattle.cfdp_receiver.proofs.MetadataAgain.{remembered_stays as proved}
use Rattle.cfdp_receiver.proofs.laws.remembered_stays.Goals as goal

pub returns : goal.returns
returns c = proved
