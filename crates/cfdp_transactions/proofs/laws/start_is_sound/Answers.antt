use Rattle.cfdp_transactions.proofs.Beginnings.Starting.{start_sound}
use Rattle.cfdp_transactions.proofs.laws.start_is_sound.Goals as goal

pub returns : goal.returns
returns c = start_sound
