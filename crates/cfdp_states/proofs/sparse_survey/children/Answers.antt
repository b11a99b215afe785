use Rattle.std.proofs.Common.{◌∙◌, ap, subst, IfOk, List}
use Rattle.cfdp_paths.specs.Paths.{Path}
use Rattle.cfdp_states.specs.code.Sparse.{AreSame, children, paths_in}
use Rattle.cfdp_states.proofs.SparsePaths.{children_tree}
use Rattle.cfdp_states.proofs.sparse_survey.children.Goals as goal

pub returns : goal.returns
returns c =
    let p = c.args.path.now in
    subst (λ (cs : List Path). IfOk c.children_in.result (λ found. AreSame found.items cs))
    (ap (λ es. children p (paths_in es)) c.tree.ensures ∙ children_tree p c.args.paths.now) c.children_in.ensures
