use Rattle.std.proofs.Common.{ap, ◌∙◌, arith}
use Rattle.std.specs.FinMap.{from_sorted, remove}
use Rattle.cfdp_states.specs.code.Sketching.{weight_in}
use Rattle.cfdp_states.proofs.Counted.{without_map, without_counted, weight_within}
use Rattle.cfdp_states.proofs.sorted_extents.SortedExtents.remove.Goals as goal

pub overflow_sub-self : goal.overflow_sub-self
overflow_sub-self c =
    omega (
      arith,
      weight_within c.args.path.now c.self.inside.entries c.self.inside.used c.self.invariant,
      c.weigh.ensures.value,
      ap weight_in c.remove-old.ensures.value,
    )

pub invariant_of-self : goal.invariant_of-self
invariant_of-self c =
    let k = c.args.path.now in
    let es = c.self.inside.entries in
    without_counted k es _ c.self.inside.used _ c.self.invariant c.remove-old.ensures.removed
    (omega (arith, weight_within k es c.self.inside.used c.self.invariant, c.weigh.ensures.value, ap weight_in c.remove-old.ensures.value))

pub returns : goal.returns
returns c =
    ap from_sorted c.remove-old.ensures.removed ∙ without_map c.args.path.now c.self.inside.entries c.self.invariant.ordered
    ∙ ap (λ m. remove m c.args.path.now) c.self.view_is
