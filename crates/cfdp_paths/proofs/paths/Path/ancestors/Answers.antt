use Rattle.std.proofs.Common.{List, ◌∷◌, [], ◌++◌, take, sym, ◌∙◌, ap, arith}
use Rattle.cfdp_paths.specs.Paths.{Path, ancestors}
use Rattle.cfdp_paths.proofs.Below.{ancestors-take}
use Rattle.cfdp_paths.proofs.paths.Path.ancestors.Goals as goal

pub loop-count-preserved : goal.loop-count-preserved
loop-count-preserved c =
    let within = c.depth-depth.ensures.depth in
    c.in_ok-push.ensures.items
    ∙ ap (λ (paths : List Path). paths ++ c.in_ok-beginning.field-0 ∷ []) c.loop-count.invariant
    ∙ ap (λ (p : Path). ancestors (take c.loop-count.count c.args.self.now) ++ p ∷ []) c.in_ok-beginning.ensures
    ∙ sym (ancestors-take c.args.self.now c.loop-count.count (omega (arith, c.loop-count.auto.count)) (omega (arith, c.loop-count-test.true)))
