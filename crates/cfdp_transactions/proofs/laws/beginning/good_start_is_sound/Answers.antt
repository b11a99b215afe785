use Rattle.cfdp_transactions.proofs.Beginnings.Starting.{good_sound}
use Rattle.cfdp_transactions.proofs.laws.beginning.good_start_is_sound.Goals as goal

pub returns : goal.returns
returns c = good_sound
