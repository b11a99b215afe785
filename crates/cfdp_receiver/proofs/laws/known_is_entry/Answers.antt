use Rattle.cfdp_receiver.proofs.SessionsAreKnown.{known_is_entry as proved}
use Rattle.cfdp_receiver.proofs.laws.known_is_entry.Goals as goal

pub returns : goal.returns
returns c = proved c.only_take_removes.ensures c.take_removes.ensures c.next_is_sound.ensures c.next_is_promised.ensures
