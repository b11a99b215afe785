use Rattle.cfdp_leases.proofs.ChangeFrame.{frame_of_changes}
use Rattle.cfdp_leases.proofs.laws.frame_of_changes.Goals as goal

pub returns : goal.returns
returns c = frame_of_changes
