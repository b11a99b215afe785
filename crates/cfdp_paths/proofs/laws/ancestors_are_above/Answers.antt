use Rattle.cfdp_paths.proofs.Below.{ancestors-Contains}
use Rattle.cfdp_paths.proofs.laws.ancestors_are_above.Goals as goal

pub returns : goal.returns
returns c = ancestors-Contains
