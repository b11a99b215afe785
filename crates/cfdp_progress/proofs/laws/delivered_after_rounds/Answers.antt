use Rattle.cfdp_progress.proofs.Rounds.{delivered_after_rounds as proved}
use Rattle.cfdp_progress.proofs.laws.delivered_after_rounds.Goals as goal

pub returns : goal.returns
returns c = proved c.next_is_sound.ensures c.next_is_promised.ensures c.whole_after_losses.ensures
