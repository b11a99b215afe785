use Rattle.cfdp_transactions.proofs.Soundness.Needs as needs
use Rattle.cfdp_transactions.proofs.laws.data_needs.Goals as goal

pub returns : goal.returns
returns c = needs.data_needs
