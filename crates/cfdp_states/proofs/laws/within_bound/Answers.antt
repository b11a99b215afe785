use Rattle.cfdp_states.proofs.Rows.{row-ticks}
use Rattle.cfdp_states.proofs.laws.within_bound.Goals as goal

pub returns : goal.returns
returns c = row-ticks
