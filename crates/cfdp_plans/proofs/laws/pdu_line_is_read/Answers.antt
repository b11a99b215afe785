use Rattle.cfdp_plans.proofs.PduLines.{pdu_line_read}
use Rattle.cfdp_plans.proofs.laws.pdu_line_is_read.Goals as goal

pub returns : goal.returns
returns c = pdu_line_read
