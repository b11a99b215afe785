use Rattle.cfdp_leases.proofs.ChangeFrame.{own_changes}
use Rattle.cfdp_leases.proofs.laws.own_changes.Goals as goal

pub returns : goal.returns
returns c = own_changes
