use Rattle.cfdp_states.proofs.Branched.{new_map, new_tallied}
use Rattle.cfdp_states.proofs.branched_extents.BranchedExtents.new.Goals as goal

pub invariant_of-result : goal.invariant_of-result
invariant_of-result c = new_tallied c.new.result c.new.ensures

pub returns : goal.returns
returns c = new_map c.new.result c.new.ensures
