use Rattle.cfdp_progress.proofs.Joining.{closed_from_held as proved}
use Rattle.cfdp_progress.proofs.laws.closed_from_held.Goals as goal

pub returns : goal.returns
returns c = proved c.only_take_removes.ensures c.take_removes.ensures c.next_is_sound.ensures c.next_is_promised.ensures c.whole_after_losses.ensures
