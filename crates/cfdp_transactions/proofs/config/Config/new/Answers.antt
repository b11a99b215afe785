use Rattle.std.proofs.Common.{rules}
use Rattle.cfdp_transactions.proofs.config.Config.new.Goals as goal

pub returns-then-checks-lt-LEAST_CHECKS-clause-err : goal.returns-then-checks-lt-LEAST_CHECKS-clause-err
returns-then-checks-lt-LEAST_CHECKS-clause-err c = search rules

pub returns-then-journal-lt-LEAST_JOURNAL-clause-err : goal.returns-then-journal-lt-LEAST_JOURNAL-clause-err
returns-then-journal-lt-LEAST_JOURNAL-clause-err c = search rules

pub invariant_of-result : goal.invariant_of-result
invariant_of-result c = search rules

pub returns-clause-ok : goal.returns-clause-ok
returns-clause-ok c = search rules
