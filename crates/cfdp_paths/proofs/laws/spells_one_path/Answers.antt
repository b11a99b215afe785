use Rattle.cfdp_paths.proofs.Spelling.{spelled_once}
use Rattle.cfdp_paths.proofs.laws.spells_one_path.Goals as goal

pub returns : goal.returns
returns c = spelled_once
