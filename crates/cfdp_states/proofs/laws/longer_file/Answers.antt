use Rattle.cfdp_states.proofs.LongerFile.{longer_file}
use Rattle.cfdp_states.proofs.laws.longer_file.Goals as goal

pub returns : goal.returns
returns c = longer_file
