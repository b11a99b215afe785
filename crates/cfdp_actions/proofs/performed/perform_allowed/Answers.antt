use Rattle.std.proofs.Common.{sym, ◌∙◌, ap}
use Rattle.cfdp_status.specs.declared.status.Status.TheVariants.{Successful}
use Rattle.cfdp_actions.specs.Actions.{Performed}
use Rattle.cfdp_actions.proofs.Allowed.{successful}
use Rattle.cfdp_actions.proofs.performed.perform_allowed.Goals as goal

pub returns-clause-status : goal.returns-clause-status
returns-clause-status g c =
    ap (λ action. Performed (Successful action)) c.action.ensures ∙ sym (successful _ c.args.request.now c.requires.allowed)
