use Rattle.cfdp_leases.proofs.ChangeFrame.{isolation}
use Rattle.cfdp_leases.proofs.laws.isolation.Goals as goal

pub returns : goal.returns
returns c = isolation
