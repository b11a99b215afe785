use Rattle.cfdp_paths.proofs.Below.{rebased-append}
use Rattle.cfdp_paths.proofs.laws.rebased_keeps_rest.Goals as goal

pub returns : goal.returns
returns c = rebased-append
