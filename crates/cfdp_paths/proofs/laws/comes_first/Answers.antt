use Rattle.cfdp_paths.proofs.Below.{is_below-Decides, path_cmp-below}
use Rattle.cfdp_paths.proofs.laws.comes_first.Goals as goal

pub returns : goal.returns
returns c = λ p q h. let parts = (is_below-Decides p q).0 h in path_cmp-below p q parts.0 parts.1
