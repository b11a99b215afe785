use Rattle.cfdp_transactions.proofs.Soundness.Needs as needs
use Rattle.cfdp_transactions.proofs.laws.step_needs.Goals as goal

pub returns : goal.returns
returns c = needs.step_needs c.lower_laws.ensures
