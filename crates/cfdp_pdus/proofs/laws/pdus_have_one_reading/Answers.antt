use Rattle.cfdp_pdus.proofs.PduSteps.{one_pdu}
use Rattle.cfdp_pdus.proofs.laws.pdus_have_one_reading.Goals as goal

pub returns : goal.returns
returns c = one_pdu
