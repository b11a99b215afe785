use Rattle.cfdp_progress.proofs.Reached.{awaiting_awaits as proved}
use Rattle.cfdp_progress.proofs.laws.awaiting_awaits.Goals as goal

pub returns : goal.returns
returns c = proved c.take_removes.ensures c.next_is_sound.ensures c.next_is_promised.ensures c.known_is_entry.ensures
