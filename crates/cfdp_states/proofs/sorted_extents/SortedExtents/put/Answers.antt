use Rattle.std.proofs.Common.{ap, sym, is_some, true≢false, ◌∙◌, arith}
use Rattle.std.specs.FinMap.{from_sorted, insert}
use Rattle.cfdp_states.specs.code.Sketching.{weight_in}
use Rattle.cfdp_states.proofs.Counted.{put_map, put_counted, weight_within, kept_count, kept_find}
use Rattle.cfdp_states.proofs.sorted_extents.SortedExtents.put.Goals as goal

pub returns-in_err-old-clause-present : goal.returns-in_err-old-clause-present
returns-in_err-old-clause-present c =
    λ there. absurd (true≢false (sym (c.in_err-old.ensures.present (ap is_some
    (sym (kept_find c.args.path.now c.self.inside.entries c.self.inside.used c.args.self.now c.self.invariant c.self.view_is)) ∙ there))))

pub overflow_sub-self : goal.overflow_sub-self
overflow_sub-self c =
    let k = c.args.path.now in
    let es = c.self.inside.entries in
    omega (
      arith,
      weight_within k es c.self.inside.used c.self.invariant,
      c.blocks-2.ensures.value,
      kept_count es _ _ c.self.invariant c.self.view_is,
      c.weigh.ensures.value,
      ap weight_in c.in_ok-old.ensures.old,
    )

pub invariant_of-self-2 : goal.invariant_of-self-2
invariant_of-self-2 c =
    let k = c.args.path.now in
    let es = c.self.inside.entries in
    put_counted k c.args.extent es _ c.self.inside.used _ c.self.invariant
    (omega (arith, c.blocks-3.ensures.value, c.blocks-3.ensures.within)) c.in_ok-old.ensures.ok
    (omega (
      arith,
      weight_within k es c.self.inside.used c.self.invariant,
      c.blocks-2.ensures.value,
      kept_count es _ _ c.self.invariant c.self.view_is,
      c.weigh.ensures.value,
      ap weight_in c.in_ok-old.ensures.old,
      c.blocks-3.ensures.value,
    ))

pub returns-clause-ok : goal.returns-clause-ok
returns-clause-ok c =
    ap from_sorted c.in_ok-old.ensures.ok ∙ put_map c.args.path.now c.args.extent c.self.inside.entries c.self.invariant.ordered
    ∙ ap (λ m. insert m c.args.path.now c.args.extent) c.self.view_is
