use Rattle.cfdp_receiver.proofs.NaksAsk.{naks_ask as proved}
use Rattle.cfdp_receiver.proofs.laws.naks_ask.Goals as goal

pub returns : goal.returns
returns c = proved
