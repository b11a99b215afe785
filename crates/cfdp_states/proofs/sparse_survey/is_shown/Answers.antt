use Rattle.std.proofs.Common.{◌∙◌, ap, not, ◌==◌, length}
use Rattle.cfdp_states.proofs.SparsePaths.{shown_tree}
use Rattle.cfdp_states.proofs.sparse_survey.is_shown.Goals as goal

pub returns : goal.returns
returns c = ap not c.is_empty.ensures ∙ ap (λ es. not (length es == 0)) c.tree.ensures ∙ shown_tree c.args.paths.now c.args.path.now
