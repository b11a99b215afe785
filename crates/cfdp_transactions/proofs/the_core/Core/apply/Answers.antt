use Rattle.std.proofs.Common.{rules}
use Rattle.cfdp_transactions.proofs.the_core.Core.apply.Goals as goal

pub returns-in-Eof-clause-follows : goal.returns-in-Eof-clause-follows
returns-in-Eof-clause-follows g c = search rules
