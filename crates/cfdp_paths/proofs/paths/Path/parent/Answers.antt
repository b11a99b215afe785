use Rattle.std.proofs.Common.{◌-◌, take, ◌∙◌, ap}
use Rattle.cfdp_paths.proofs.Below.{unless_root-more}
use Rattle.cfdp_paths.proofs.paths.Path.parent.Goals as goal

pub returns-clause-parent : goal.returns-clause-parent
returns-clause-parent c =
    let within = c.depth-depth.ensures in
    unless_root-more c.args.self.now c.in_ok-above.above within.within.some (λ one. c.if-depth-eq1.false (within.depth ∙ one))
    (c.in_ok-above.ensures ∙ ap (λ n. take (n - 1) c.args.self.now) within.depth)
