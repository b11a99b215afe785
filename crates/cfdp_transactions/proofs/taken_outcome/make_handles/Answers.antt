use Rattle.std.proofs.Common.{◌∙◌}
use Rattle.cfdp_transactions.proofs.taken_outcome.make_handles.Goals as goal

pub returns-clause-outcome : goal.returns-clause-outcome
returns-clause-outcome c = λ F. c.in_ok-outcome.ensures ∙ c.in_ok-make_outcome.ensures F
