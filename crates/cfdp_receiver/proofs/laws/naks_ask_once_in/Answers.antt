use Rattle.cfdp_receiver.proofs.NaksAskOnce.{naks_ask_once_in as proved}
use Rattle.cfdp_receiver.proofs.laws.naks_ask_once_in.Goals as goal

pub returns : goal.returns
returns c = proved
