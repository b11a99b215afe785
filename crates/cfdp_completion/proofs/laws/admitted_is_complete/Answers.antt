use Rattle.cfdp_completion.proofs.Arriving.{admitted_complete}
use Rattle.cfdp_completion.proofs.laws.admitted_is_complete.Goals as goal

pub returns : goal.returns
returns c = admitted_complete
