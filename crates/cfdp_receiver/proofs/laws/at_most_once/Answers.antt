use Rattle.cfdp_receiver.proofs.MetadataAgain.{at_most_once as proved}
use Rattle.cfdp_receiver.proofs.laws.at_most_once.Goals as goal

pub returns : goal.returns
returns c = proved c.only_take_removes.ensures c.take_removes.ensures c.next_is_sound.ensures c.next_is_promised.ensures
