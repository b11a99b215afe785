use Rattle.cfdp_states.proofs.Branched.{below_by_depth}
use Rattle.cfdp_states.proofs.branched_extents.BranchedExtents.has_below.Goals as goal

pub returns : goal.returns
returns c = below_by_depth c.args.self.now c.args.path.now c.levels.result c.levels.ensures.levels
