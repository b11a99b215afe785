use Rattle.cfdp_states.proofs.Appending.{view_goes_on}
use Rattle.cfdp_states.proofs.laws.view_goes_on.Goals as goal

pub returns : goal.returns
returns c = view_goes_on c.only_leased.ensures
