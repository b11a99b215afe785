use Rattle.cfdp_receiver.proofs.NaksAsk.{few_nak_pdus as proved}
use Rattle.cfdp_receiver.proofs.laws.few_nak_pdus.Goals as goal

pub returns : goal.returns
returns c = proved
