use Rattle.std.proofs.Common.{sym, ap, ◌∙◌, refl, ◌++◌}
use Rattle.std.specs.FinMap.{find}
use Rattle.cfdp_paths.specs.Paths.{path_cmp}
use Rattle.cfdp_states.proofs.Branched.{depth_at, depth_none}
use Rattle.cfdp_states.proofs.branched_extents.BranchedExtents.levels.Goals as goal

pub returns-in-None-clause-levels : goal.returns-in-None-clause-levels
returns-in-None-clause-levels c =
    depth_none c.self.inside.root c.args.self.now c.args.path.now c.self.view_is
    (λ r. ap (λ ns. find path_cmp (ns ++ r) c.self.inside.root) (sym c.names.ensures.names) ∙ c.in-None.ensures.absent refl r)

pub returns-in-Some-clause-levels : goal.returns-in-Some-clause-levels
returns-in-Some-clause-levels c =
    depth_at c.self.inside.root c.in-Some.branch.now c.args.self.now c.args.path.now c.levels.result c.self.view_is
    (λ r. c.in-Some.ensures.found r ∙ ap (λ ns. find path_cmp (ns ++ r) c.self.inside.root) c.names.ensures.names) c.levels.ensures.levels
