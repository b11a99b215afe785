use Rattle.cfdp_run.proofs.Spelling.{words_read}
use Rattle.cfdp_run.proofs.laws.words_are_read.Goals as goal

pub returns : goal.returns
returns c = words_read
