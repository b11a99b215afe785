use Rattle.cfdp_states.proofs.Rows.{row-grows}
use Rattle.cfdp_states.proofs.laws.growth.Goals as goal

pub returns : goal.returns
returns c = row-grows
