use Rattle.cfdp_progress.proofs.Concluding.{finished_is_sent as proved}
use Rattle.cfdp_progress.proofs.laws.finished_is_sent.Goals as goal

pub returns : goal.returns
returns c = proved
