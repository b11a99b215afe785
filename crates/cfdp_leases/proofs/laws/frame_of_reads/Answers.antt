use Rattle.cfdp_leases.proofs.ReadFrame.{frame_of_reads}
use Rattle.cfdp_leases.proofs.laws.frame_of_reads.Goals as goal

pub returns : goal.returns
returns c = frame_of_reads
