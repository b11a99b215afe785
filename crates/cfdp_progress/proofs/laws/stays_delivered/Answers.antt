use Rattle.cfdp_progress.proofs.Runs.{stays_delivered as proved}
use Rattle.cfdp_progress.proofs.laws.stays_delivered.Goals as goal

pub returns : goal.returns
returns c = proved c.next_is_sound.ensures c.next_is_promised.ensures
