use Rattle.cfdp_states.proofs.Appending.{view_begins}
use Rattle.cfdp_states.proofs.laws.view_begins.Goals as goal

pub returns : goal.returns
returns c = view_begins c.only_leased.ensures
