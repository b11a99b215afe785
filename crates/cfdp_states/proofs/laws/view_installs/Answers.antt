use Rattle.cfdp_states.proofs.Appending.{view_installs}
use Rattle.cfdp_states.proofs.laws.view_installs.Goals as goal

pub returns : goal.returns
returns c = view_installs c.only_leased.ensures
