use Rattle.cfdp_transactions.proofs.Promises.OnlyStepsChange as existing
use Rattle.cfdp_transactions.proofs.laws.only_steps_change.Goals as goal

pub returns : goal.returns
returns c = existing.only_steps_change
