use Rattle.std.proofs.Common.{sym, ◌∙◌, ap, refl}
use Rattle.cfdp_status.specs.declared.status.Status.TheVariants.{Successful}
use Rattle.cfdp_actions.specs.Actions.{Performed}
use Rattle.cfdp_actions.proofs.Allowed.{performs}
use Rattle.cfdp_actions.proofs.performed.perform.Goals as goal

pub returns-clause-status : goal.returns-clause-status
returns-clause-status g c =
    ap (λ action. Performed (Successful action)) c.action-action.ensures
    ∙ sym (performs _ _ _ _ (c.in_default.ensures.stated _ refl) (sym c.bars.ensures ∙ c.if-bars.false) (sym c.has_room.ensures ∙ c.if-not-has_room.false))
