use Rattle.cfdp_states.proofs.Alike.{foreign_change}
use Rattle.cfdp_states.proofs.laws.foreign_change.Goals as goal

pub returns : goal.returns
returns c = foreign_change c.frame_of_reads.ensures c.stays_rooted.ensures
