use Rattle.cfdp_receiver.proofs.MetadataAgain.{not_begun_anew as proved}
use Rattle.cfdp_receiver.proofs.laws.not_begun_anew.Goals as goal

pub returns : goal.returns
returns c = proved
