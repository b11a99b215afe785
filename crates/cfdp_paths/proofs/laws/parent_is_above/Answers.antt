use Rattle.cfdp_paths.proofs.Below.{parent_below, below_parent}
use Rattle.cfdp_paths.proofs.laws.parent_is_above.Goals as goal

pub returns : goal.returns
returns c = λ p some. (parent_below p some, below_parent p)
