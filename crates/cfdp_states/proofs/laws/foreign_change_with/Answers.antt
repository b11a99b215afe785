use Rattle.cfdp_states.proofs.Alike.{foreign_change_with}
use Rattle.cfdp_states.proofs.laws.foreign_change_with.Goals as goal

pub returns : goal.returns
returns c = foreign_change_with c.frame_of_reads.ensures c.stays_rooted.ensures
