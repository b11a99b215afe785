use Rattle.cfdp_cutter.proofs.Filling.{little_is_kept}
use Rattle.cfdp_cutter.proofs.laws.little_is_kept.Goals as goal

pub returns : goal.returns
returns c = little_is_kept
