use Rattle.std.proofs.Common.{ap, ◌+◌, ◌∙◌, nat_lt}
use Rattle.cfdp_states.proofs.Branched.{deep_by_depth}
use Rattle.cfdp_states.proofs.branched_extents.BranchedExtents.is_too_deep.Goals as goal

pub returns : goal.returns
returns c =
    ap (λ k. nat_lt 9 (c.levels.result + k)) c.depth.ensures.depth
    ∙ deep_by_depth c.args.self.now c.args.from.now c.args.to.now c.levels.result c.levels.ensures.levels c.depth.ensures.within.few
