use Rattle.cfdp_progress.proofs.ClosedAfterLosses.{closed_after_losses as proved}
use Rattle.cfdp_progress.proofs.laws.closed_after_losses.Goals as goal

pub returns : goal.returns
returns c = proved
