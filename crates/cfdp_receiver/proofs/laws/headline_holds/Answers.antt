use Rattle.cfdp_receiver.proofs.HandedOn.{headline_holds as proved}
use Rattle.cfdp_receiver.proofs.laws.headline_holds.Goals as goal

pub returns : goal.returns
returns c = proved c.next_is_sound.ensures c.next_is_promised.ensures
