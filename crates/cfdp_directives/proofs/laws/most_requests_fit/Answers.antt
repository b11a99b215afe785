use Rattle.cfdp_directives.proofs.Lengths.{most_requests_fit as proved}
use Rattle.cfdp_directives.proofs.laws.most_requests_fit.Goals as goal

pub returns : goal.returns
returns c = proved
