use Rattle.cfdp_leases.proofs.Rooted.{stays_rooted}
use Rattle.cfdp_leases.proofs.laws.stays_rooted.Goals as goal

pub returns : goal.returns
returns c = stays_rooted
