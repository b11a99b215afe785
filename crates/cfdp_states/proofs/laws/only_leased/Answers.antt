use Rattle.cfdp_states.proofs.Leased.{only_leased}
use Rattle.cfdp_states.proofs.laws.only_leased.Goals as goal

pub returns : goal.returns
returns c = only_leased c.frame_of_reads.ensures c.own_changes.ensures
