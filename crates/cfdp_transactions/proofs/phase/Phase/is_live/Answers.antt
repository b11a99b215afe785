use Rattle.std.proofs.Common.{rules}
use Rattle.cfdp_transactions.proofs.phase.Phase.is_live.Goals as goal

pub returns-in-Refused : goal.returns-in-Refused
returns-in-Refused c = search rules
