use Rattle.cfdp_receiver.proofs.OthersStay.{others_keep_entries as proved}
use Rattle.cfdp_receiver.proofs.laws.others_keep_entries.Goals as goal

pub returns : goal.returns
returns c = proved c.next_is_sound.ensures c.next_is_promised.ensures
