use Rattle.std.proofs.Common.{sym, ap, ◌∙◌, ◌-◌, take}
use Rattle.std.specs.FinMap.{get}
use Rattle.cfdp_paths.proofs.Below.{parent-take}
use Rattle.cfdp_states.proofs.branched_extents.BranchedExtents.parent.Goals as goal

pub returns : goal.returns
returns c =
    let p = c.args.path.now in
    c.find.ensures ∙ ap (get c.args.self.now) (c.first_names.ensures.names ∙ ap (λ n. take (n - 1) p) c.depth.ensures.depth ∙ sym (parent-take p))
