use Rattle.std.proofs.Common.{rules}
use Rattle.cfdp_transactions.proofs.event.event_of.Goals as goal

pub returns-then-header-clause-err : goal.returns-then-header-clause-err
returns-then-header-clause-err c = search rules

pub returns-else-header-clause-ok : goal.returns-else-header-clause-ok
returns-else-header-clause-ok c = search rules
