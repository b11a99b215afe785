use Rattle.cfdp_receiver.proofs.OthersStay.{work_keeps_others as proved}
use Rattle.cfdp_receiver.proofs.laws.work_keeps_others.Goals as goal

pub returns : goal.returns
returns c = proved c.next_is_sound.ensures c.next_is_promised.ensures
