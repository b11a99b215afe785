use Rattle.cfdp_receiver.proofs.NaksAskOnce.{ends_stay_there as proved}
use Rattle.cfdp_receiver.proofs.laws.ends_stay_there.Goals as goal

pub returns : goal.returns
returns c = proved
