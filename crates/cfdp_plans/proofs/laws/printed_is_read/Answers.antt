use Rattle.cfdp_plans.proofs.Printing.{printed_read}
use Rattle.cfdp_plans.proofs.laws.printed_is_read.Goals as goal

pub returns : goal.returns
returns c = printed_read
