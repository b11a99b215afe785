use Rattle.cfdp_receiver.proofs.Serving.{served_once as proved}
use Rattle.cfdp_receiver.proofs.laws.served_once.Goals as goal

pub returns : goal.returns
returns c = proved c.next_is_sound.ensures c.next_is_promised.ensures
