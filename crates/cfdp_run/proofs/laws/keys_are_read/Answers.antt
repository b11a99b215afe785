use Rattle.cfdp_run.proofs.Spelling.{keys_read}
use Rattle.cfdp_run.proofs.laws.keys_are_read.Goals as goal

pub returns : goal.returns
returns c = keys_read
