use Rattle.cfdp_leases.proofs.Keys.{keys_stay_paths}
use Rattle.cfdp_leases.proofs.laws.keys_stay_paths.Goals as goal

pub returns : goal.returns
returns c = keys_stay_paths
