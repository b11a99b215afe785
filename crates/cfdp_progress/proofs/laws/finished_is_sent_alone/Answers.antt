use Rattle.cfdp_progress.proofs.Concluding.{finished_is_sent_alone as proved}
use Rattle.cfdp_progress.proofs.laws.finished_is_sent_alone.Goals as goal

pub returns : goal.returns
returns c = proved
