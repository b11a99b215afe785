use Rattle.cfdp_receiver.proofs.OwnTime.{not_taken_stays}
use Rattle.cfdp_receiver.proofs.laws.not_taken_stays.Goals as goal

pub returns : goal.returns
returns c = not_taken_stays
