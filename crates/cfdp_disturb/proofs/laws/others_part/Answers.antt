use Rattle.cfdp_disturb.proofs.Coming.{others_part}
use Rattle.cfdp_disturb.proofs.laws.others_part.Goals as goal

pub returns : goal.returns
returns c = others_part
