use Rattle.cfdp_retransmission.proofs.Hearing.{whole_after_losses as proved}
use Rattle.cfdp_retransmission.proofs.laws.whole_after_losses.Goals as goal

pub returns : goal.returns
returns c = proved
