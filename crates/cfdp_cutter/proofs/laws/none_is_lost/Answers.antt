use Rattle.cfdp_cutter.proofs.Cuts.{none_is_lost}
use Rattle.cfdp_cutter.proofs.laws.none_is_lost.Goals as goal

pub returns : goal.returns
returns c = none_is_lost
