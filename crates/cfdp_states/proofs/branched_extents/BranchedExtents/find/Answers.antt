use Rattle.std.proofs.Common.{sym, ap, ◌∙◌, refl, []}
use Rattle.std.proofs.lemmas.List.{append-nil}
use Rattle.std.specs.FinMap.{get}
use Rattle.cfdp_branches.specs.Branches.{value_at, value_in}
use Rattle.cfdp_states.proofs.Branched.{get-values}
use Rattle.cfdp_states.proofs.branched_extents.BranchedExtents.find.Goals as goal

pub returns-in_err-at : goal.returns-in_err-at
returns-in_err-at c =
    c.from_residual.ensures ∙ sym (ap value_in (c.in_err-at.ensures.absent refl []))
    ∙ ap (value_at c.self.inside.root) (append-nil c.args.names) ∙ sym (get-values c.self.inside.root c.args.names)
    ∙ ap (λ m. get m c.args.names) c.self.view_is

pub returns : goal.returns
returns c =
    c.value.ensures ∙ ap value_in (c.in_ok-at.ensures.found [])
    ∙ ap (value_at c.self.inside.root) (append-nil c.args.names) ∙ sym (get-values c.self.inside.root c.args.names)
    ∙ ap (λ m. get m c.args.names) c.self.view_is
