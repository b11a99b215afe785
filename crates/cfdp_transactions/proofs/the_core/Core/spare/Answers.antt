use Rattle.std.proofs.Common.{rules}
use Rattle.cfdp_transactions.proofs.the_core.Core.spare.Goals as goal

pub returns : goal.returns
returns g c = search rules
