use Rattle.std.proofs.Common.{sym, ◌∙◌, ap}
use Rattle.cfdp_actions.specs.Actions.{succeeded}
use Rattle.cfdp_actions.proofs.RowLaws.{nothing_by, there_by, absent_by, there_unless}
use Rattle.cfdp_actions.proofs.Refusing.{rename_old_absent, rename_new_present, rename_bad_parent, rename_into_itself, rename_too_deep, rename_of_tree}
use Rattle.cfdp_actions.proofs.refusals.renaming.Goals as goal
use Rattle.cfdp_actions.proofs.refusals.renaming.Goals.{then-not-parent_is_good-via-then-not-parent_is_good, then-not-parent_is_good-via-else-not-parent_is_good+then-is_at_or_below, then-not-parent_is_good-via-else-not-parent_is_good+else-is_at_or_below+then-is_too_deep}

pub returns-then-is_none-clause-stated : goal.returns-then-is_none-clause-stated
returns-then-is_none-clause-stated g c = λ F h. rename_old_absent _ _ _ (nothing_by _ _ _ (c.kind.ensures F h) c.is_none.ensures c.if-is_none.true)

pub returns-then-is_some-clause-stated : goal.returns-then-is_some-clause-stated
returns-then-is_some-clause-stated g c = λ F h.
    rename_new_present _ _ _ (there_unless _ _ _ (c.kind.ensures F h) c.is_none.ensures c.if-is_none.false)
    (there_by _ _ _ (c.kind-2.ensures F h) c.is_some.ensures c.if-is_some.true)

pub is_too_deep-requires : goal.is_too_deep-requires
is_too_deep-requires g c = λ F h. there_unless _ _ _ (c.kind.ensures F h) c.is_none.ensures c.if-is_none.false

pub returns-then-not-parent_is_good-clause-stated : goal.returns-then-not-parent_is_good-clause-stated
returns-then-not-parent_is_good-clause-stated g c = λ F h.
    let old = there_unless _ _ _ (c.kind.ensures F h) c.is_none.ensures c.if-is_none.false in
    let new = absent_by _ _ _ (c.kind-2.ensures F h) c.is_some.ensures c.if-is_some.false in
    elim c.then-not-parent_is_good.branch [
      | then-not-parent_is_good-via-then-not-parent_is_good w ↦ rename_bad_parent _ _ _ old new (sym (c.parent_is_good.ensures F h)
          ∙ w.if-not-parent_is_good.true)
      | then-not-parent_is_good-via-else-not-parent_is_good+then-is_at_or_below w ↦
          rename_into_itself _ _ _ old new (sym w.is_at_or_below.ensures ∙ w.if-is_at_or_below.true)
      | then-not-parent_is_good-via-else-not-parent_is_good+else-is_at_or_below+then-is_too_deep w ↦
          rename_too_deep _ _ _ old new (sym (w.is_too_deep.ensures.stated F h) ∙ w.if-is_too_deep.true)
    ]

pub returns-clause-stated : goal.returns-clause-stated
returns-clause-stated g c = λ F h.
    let old = there_unless _ _ _ (c.kind.ensures F h) c.is_none.ensures c.if-is_none.false in
    let new = absent_by _ _ _ (c.kind-2.ensures F h) c.is_some.ensures c.if-is_some.false in
    ap (λ o. succeeded o.answer) (rename_of_tree _ _ _ old new (sym (c.parent_is_good.ensures F h) ∙ c.if-not-parent_is_good.false)
    (sym c.is_at_or_below.ensures ∙ c.if-is_at_or_below.false) (sym (c.is_too_deep.ensures.stated F h) ∙ c.if-is_too_deep.false))
