use Rattle.std.proofs.Common.{◌≡◌, sym, ◌∙◌, subst, ◌+◌, if◌then◌else◌, IfSome, ℕ, List, length}
use Rattle.cfdp_paths.specs.Paths.{Path}
use Rattle.cfdp_states.specs.code.Sparse.{AreSame, children, is_moved, paths_in}
use Rattle.cfdp_states.proofs.SparsePaths.{has_same, deepest_same}
use Rattle.cfdp_states.proofs.sparse_survey.hidden_depth.Goals as goal

pub returns-clause-there : goal.returns-clause-there
returns-clause-there g c =
    let F = (g.S.Filestore.state c.args.store.now).filestore in
    let u = c.args.path.now in
    let shown = children u (paths_in c.args.paths.now) in
    c.depth_beside.ensures.there ∙ has_same F c.deref.result.now shown u
    (subst (λ (xs : List Path). AreSame xs shown) (sym c.deref.ensures.value) c.in_ok-others.ensures)

pub returns-clause-deep : goal.returns-clause-deep
returns-clause-deep g c =
    let F = (g.S.Filestore.state c.args.store.now).filestore in
    let u = c.args.path.now in
    let shown = children u (paths_in c.args.paths.now) in
    subst (λ (most : ℕ). IfSome c.depth_beside.result (λ depth. depth ≡ (if is_moved c.args.requests.now u then most else length u + 1)))
    (deepest_same F c.deref.result.now shown u (subst (λ (xs : List Path). AreSame xs shown) (sym c.deref.ensures.value) c.in_ok-others.ensures))
    c.depth_beside.ensures.deep
