use Rattle.std.proofs.Common.{sym, ◌∙◌, ap}
use Rattle.cfdp_actions.specs.Actions.{succeeded}
use Rattle.cfdp_actions.proofs.RowLaws.{there_by, absent_by}
use Rattle.cfdp_actions.proofs.Refusing.{create_present, create_bad, create_made}
use Rattle.cfdp_actions.proofs.refusals.creation.Goals as goal
use Rattle.cfdp_actions.proofs.refusals.creation.Goals.{then-is_some-via-then-is_some, then-is_some-via-else-is_some+then-not-parent_is_good}

pub returns-then-is_some : goal.returns-then-is_some
returns-then-is_some g c = λ F node h. elim c.then-is_some.branch [
  | then-is_some-via-then-is_some w ↦ create_present _ _ _ _ _ (there_by _ _ _ (c.kind.ensures F h) c.is_some.ensures w.if-is_some.true)
  | then-is_some-via-else-is_some+then-not-parent_is_good w ↦ create_bad _ _ _ _ _ (sym (w.parent_is_good.ensures F h) ∙ w.if-not-parent_is_good.true)
]

pub returns : goal.returns
returns g c = λ F node h.
    ap (λ o. succeeded o.answer) (create_made _ _ _ _ _ (absent_by _ _ _ (c.kind.ensures F h) c.is_some.ensures c.if-is_some.false)
    (sym (c.parent_is_good.ensures F h) ∙ c.if-not-parent_is_good.false))
