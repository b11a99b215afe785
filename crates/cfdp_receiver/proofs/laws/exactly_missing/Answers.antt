use Rattle.cfdp_receiver.proofs.NaksAsk.{exactly_missing as proved}
use Rattle.cfdp_receiver.proofs.laws.exactly_missing.Goals as goal

pub returns : goal.returns
returns c = proved
