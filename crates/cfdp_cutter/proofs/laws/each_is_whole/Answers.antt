use Rattle.cfdp_cutter.proofs.Cuts.{each_is_whole}
use Rattle.cfdp_cutter.proofs.laws.each_is_whole.Goals as goal

pub returns : goal.returns
returns c = each_is_whole
