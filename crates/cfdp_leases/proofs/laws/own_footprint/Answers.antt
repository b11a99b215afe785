use Rattle.cfdp_leases.proofs.Conflict.{own_footprint}
use Rattle.cfdp_leases.proofs.laws.own_footprint.Goals as goal

pub returns : goal.returns
returns c = own_footprint
