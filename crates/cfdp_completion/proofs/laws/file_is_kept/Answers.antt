use Rattle.cfdp_completion.proofs.FileKept.{file_kept}
use Rattle.cfdp_completion.proofs.laws.file_is_kept.Goals as goal

pub returns : goal.returns
returns c = file_kept
