use Rattle.cfdp_receiver.proofs.WholeLists.{all_or_none as proved}
use Rattle.cfdp_receiver.proofs.laws.all_or_none.Goals as goal

pub returns : goal.returns
returns c = proved c.only_take_removes.ensures c.take_removes.ensures c.next_is_sound.ensures c.next_is_promised.ensures
