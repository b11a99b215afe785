use Rattle.std.proofs.Common.{sym, subst, ◌++◌, ◌∷◌, [], List, take_all}
use Rattle.std.specs.Bool.{⊤}
use Rattle.cfdp_paths.specs.Paths.{Path}
use Rattle.cfdp_states.specs.code.Sparse.{AreSame, paths_in}
use Rattle.cfdp_states.proofs.SparsePaths.{added_same, none_added, put_same}
use Rattle.cfdp_states.proofs.origins.add_all.Goals as goal

pub loop-path-init : goal.loop-path-init
loop-path-init c = none_added (paths_in c.args.paths.now) c.args.others.now

pub loop-path-preserved : goal.loop-path-preserved
loop-path-preserved c =
    let path = c.path-item.result in
    let later = c.put.new.self in
    added_same (paths_in later) (paths_in c.loop-path.paths) (paths_in c.args.paths.now) c.args.others.now c.loop-path.path-index path
    c.loop-path-test.true c.path-item.is
    (subst (λ (es : List (Path × ⊤)). AreSame (paths_in es) (paths_in c.loop-path.paths ++ path ∷ [])) (sym c.in_ok-put.ensures.ok)
    (put_same path tt c.loop-path.paths)) c.loop-path.invariant

pub returns : goal.returns
returns c = subst (λ (xs : List Path). AreSame (paths_in c.loop-path.paths) (paths_in c.args.paths.now ++ xs))
    (take_all c.loop-path.path-index c.args.others.now c.loop-path-test.false) c.loop-path.invariant
