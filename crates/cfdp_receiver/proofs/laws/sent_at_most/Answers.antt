use Rattle.cfdp_receiver.proofs.FinishedSentAtMost.{sent_at_most as proved}
use Rattle.cfdp_receiver.proofs.laws.sent_at_most.Goals as goal

pub returns : goal.returns
returns c = proved
