use Rattle.std.proofs.Common.{◌≡◌, refl, sym, ◌∙◌, ap, subst, is_some, true}
use Rattle.cfdp_actions.specs.Filestore.{has_beside}
use Rattle.cfdp_states.specs.Sketching.{Extents}
use Rattle.cfdp_states.specs.code.Sparse.{FillsAt, children, is_moved, shows, paths_in}
use Rattle.cfdp_states.proofs.SparseFillers.{fills_none, fills_one, filler_deep}
use Rattle.cfdp_states.proofs.sparse_survey.add_filler.Goals as goal

-- nothing is hidden there
pub returns-in_default : goal.returns-in_default
returns-in_default g c = λ ok G same.
    fills_none (paths_in c.args.paths.now) c.args.path.now c.requires (g.S.Filestore.state c.args.store.now).filestore G same (is_moved c.args.requests.now)
    c.args.extents.now (sym c.in_ok-depth.ensures.there ∙ ap is_some c.in_default.is)

pub filler-requires-clause-below : goal.filler-requires-clause-below
filler-requires-clause-below g c =
    let F = (g.S.Filestore.state c.args.store.now).filestore in
    filler_deep (paths_in c.args.paths.now) c.args.path.now c.requires F F (λ x at. refl) (is_moved c.args.requests.now c.args.path.now) c.in-Some.depth
    (rw c.in-Some.is at c.in_ok-depth.ensures.deep) (sym c.in_ok-depth.ensures.there ∙ ap is_some c.in-Some.is)

pub returns : goal.returns
returns g c = λ ok G same.
    let F = (g.S.Filestore.state c.args.store.now).filestore in
    let paths = paths_in c.args.paths.now in
    let u = c.args.path.now in
    let known = is_moved c.args.requests.now in
    let some : has_beside F u (children u paths) ≡ true = sym {b = has_beside F u (children u paths)} c.in_ok-depth.ensures.there ∙ ap is_some c.in-Some.is in
    subst (λ (m : Extents). FillsAt (shows paths) known G u c.args.extents.now m) (sym c.in_ok-insert.ensures.ok)
    (fills_one paths u c.requires F G same known c.args.extents.now c.in-Some.depth some (rw c.in-Some.is at c.in_ok-depth.ensures.deep) c.in-Some-2.filler
    (rw c.in-Some-2.is at c.in_ok-filler.ensures))
