use Rattle.cfdp_leases.proofs.Conflict.{lists_conflict_by_paths}
use Rattle.cfdp_leases.proofs.laws.conflict_by_paths.Goals as goal

pub returns : goal.returns
returns c = lists_conflict_by_paths
