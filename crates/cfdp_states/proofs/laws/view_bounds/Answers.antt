use Rattle.cfdp_states.proofs.Appending.{view_bounds}
use Rattle.cfdp_states.proofs.laws.view_bounds.Goals as goal

pub returns : goal.returns
returns c = view_bounds
