use Rattle.cfdp_states.proofs.Appending.{view_refuses}
use Rattle.cfdp_states.proofs.laws.view_refuses.Goals as goal

pub returns : goal.returns
returns c = view_refuses c.only_leased.ensures
