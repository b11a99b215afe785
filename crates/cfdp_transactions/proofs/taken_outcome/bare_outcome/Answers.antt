use Rattle.std.proofs.Common.{rules}
use Rattle.cfdp_transactions.proofs.taken_outcome.bare_outcome.Goals as goal

pub returns : goal.returns
returns c = λ F. search (rules, c.file_status.ensures F, c.find_fault.ensures F)
