use Rattle.cfdp_disturb.proofs.Coming.{each_comes}
use Rattle.cfdp_disturb.proofs.laws.each_comes.Goals as goal

pub returns : goal.returns
returns c = each_comes
