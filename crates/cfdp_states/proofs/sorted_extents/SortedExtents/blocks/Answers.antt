use Rattle.std.proofs.Common.{sym, ap, ◌∙◌, length, arith}
use Rattle.cfdp_states.specs.code.Sketching.{total_weight, total_blocks}
use Rattle.cfdp_states.proofs.Counted.{entries-map, few_blocks}
use Rattle.cfdp_states.proofs.sorted_extents.SortedExtents.blocks.Goals as goal

pub returns-clause-value : goal.returns-clause-value
returns-clause-value c =
    c.self.invariant.counted ∙ ap total_weight (sym (entries-map c.self.inside.entries c.self.invariant.ordered)) ∙ ap total_blocks c.self.view_is

pub returns-clause-within : goal.returns-clause-within
returns-clause-within c =
    omega (
      arith,
      c.self.invariant.counted,
      few_blocks c.self.inside.entries c.self.invariant.ordered c.self.invariant.small,
      ap length c.entries.ensures.entries,
    )
