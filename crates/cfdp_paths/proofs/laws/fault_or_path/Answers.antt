use Rattle.cfdp_paths.proofs.Faulty.{fault_exactly}
use Rattle.cfdp_paths.proofs.laws.fault_or_path.Goals as goal

pub returns : goal.returns
returns c = fault_exactly
