use Rattle.cfdp_disturb.proofs.Coming.{quiet_is_same}
use Rattle.cfdp_disturb.proofs.laws.quiet_is_same.Goals as goal

pub returns : goal.returns
returns c = quiet_is_same
