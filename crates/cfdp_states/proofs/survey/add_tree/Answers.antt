use Rattle.std.proofs.Common.{sym, ◌∙◌, ap, subst}
use Rattle.cfdp_paths.specs.Paths.{is_at_or_below}
use Rattle.cfdp_states.specs.Sketching.{Extents}
use Rattle.cfdp_states.specs.code.Sketching.{AddsWhere, added}
use Rattle.cfdp_states.proofs.Trees.{tree_added}
use Rattle.cfdp_states.proofs.survey.add_tree.Goals as goal

pub returns : goal.returns
returns g c =
    let F = (g.S.Filestore.state c.args.store.now).filestore in
    subst (λ (m : Extents). AddsWhere (λ p. is_at_or_below p c.args.root.now) F c.args.extents.now m)
    (sym (c.in_ok-add_all.ensures ∙ ap (λ ss. added ss c.args.extents.now) c.in_ok-found.ensures))
    (tree_added F c.args.root.now c.args.extents.now c.requires)
