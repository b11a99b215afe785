use Rattle.cfdp_progress.proofs.Concluding.{concluded_when_done as proved}
use Rattle.cfdp_progress.proofs.laws.concluded_when_done.Goals as goal

pub returns : goal.returns
returns c = proved c.next_is_sound.ensures c.next_is_promised.ensures
