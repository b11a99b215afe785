use Rattle.cfdp_receiver.proofs.NaksAskOnce.{naks_ask_once as proved}
use Rattle.cfdp_receiver.proofs.laws.naks_ask_once.Goals as goal

pub returns : goal.returns
returns c = proved
