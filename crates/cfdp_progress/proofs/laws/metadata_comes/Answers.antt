use Rattle.cfdp_progress.proofs.Joining.{metadata_comes as proved}
use Rattle.cfdp_progress.proofs.laws.metadata_comes.Goals as goal

pub returns : goal.returns
returns c = proved
