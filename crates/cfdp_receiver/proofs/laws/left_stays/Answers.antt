use Rattle.cfdp_receiver.proofs.OwnTime.{left_stays}
use Rattle.cfdp_receiver.proofs.laws.left_stays.Goals as goal

pub returns : goal.returns
returns c = left_stays
