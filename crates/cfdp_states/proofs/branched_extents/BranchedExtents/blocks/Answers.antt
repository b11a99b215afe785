use Rattle.std.proofs.Common.{arith}
use Rattle.cfdp_states.proofs.Branched.{few_used}
use Rattle.cfdp_states.proofs.branched_extents.BranchedExtents.blocks.Goals as goal

pub returns-clause-within : goal.returns-clause-within
returns-clause-within c = omega (arith, few_used _ c.self.inside.count c.self.inside.used c.self.invariant)
