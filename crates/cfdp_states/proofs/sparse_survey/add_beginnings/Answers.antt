use Rattle.std.proofs.Common.{ℕ, [], ◌≡◌, ◌∙◌, ap, subst, ◌||◌, ◌-◌, ◌+◌, take, Ok, arith}
use Rattle.cfdp_paths.specs.Paths.{Path, is_at_or_below, same_path}
use Rattle.cfdp_states.specs.Alone.{alone}
use Rattle.cfdp_states.specs.Views.{only}
use Rattle.cfdp_states.specs.code.Sparse.{IsSparseSurvey, is_moved, is_shown, shows, paths_in, PassAbove}
use Rattle.cfdp_states.proofs.SparseSteps.{shown_front, known_beginning, next_beginning, all_beginnings}
use Rattle.cfdp_states.proofs.sparse_survey.add_beginnings.Goals as goal

pub loop-depth-init : goal.loop-depth-init
loop-depth-init g c = λ done passes s.
    let same : c.args.known ≡ c.args.known + 1 - 1 = omega arith in
    known_beginning (is_moved c.args.requests.now) (paths_in c.args.paths.now)
    (alone (only c.args.footprint.now (g.S.Filestore.state c.args.store.now).filestore) []) c.args.extents.now done c.args.path.now (c.args.known + 1 - 1)
    (subst (λ (k : ℕ). PassAbove done (take k c.args.path.now)) same passes) s

pub add_path-requires-clause-shown : goal.add_path-requires-clause-shown
add_path-requires-clause-shown g c =
    ap (is_shown (paths_in c.args.paths.now)) c.in_ok-beginning.ensures
    ∙ shown_front (paths_in c.args.paths.now) c.args.path.now c.loop-depth.depth c.requires.shown

pub loop-depth-preserved : goal.loop-depth-preserved
loop-depth-preserved g c = λ done passes s.
    let F = alone (only c.args.footprint.now (g.S.Filestore.state c.args.store.now).filestore) [] in
    let k = c.loop-depth.depth - 1 in
    let next : c.loop-depth.depth ≡ k + 1 = omega arith in
    let here = c.add_path.ensures (c.in_ok-add_path.was ∙ ap Ok c.if-not-branch.false)
    (λ p. done p || is_at_or_below (take k c.args.path.now) p) (c.loop-depth.invariant done passes s) in
    next_beginning (is_moved c.args.requests.now) (paths_in c.args.paths.now) F c.add_path.new.extents done c.args.path.now k (c.loop-depth.depth + 1 - 1)
    (omega arith) (omega arith)
    (subst (λ (u : Path). IsSparseSurvey (is_moved c.args.requests.now) (shows (paths_in c.args.paths.now)) c.add_path.new.extents
    (λ p. (done p || is_at_or_below (take k c.args.path.now) p) || same_path p u) F)
    (c.in_ok-beginning.ensures ∙ ap (λ n. take n c.args.path.now) next) here)

pub returns : goal.returns
returns g c = λ ok done passes s.
    let F = alone (only c.args.footprint.now (g.S.Filestore.state c.args.store.now).filestore) [] in
    all_beginnings (is_moved c.args.requests.now) (paths_in c.args.paths.now) F c.loop-depth.extents done c.args.path.now (c.loop-depth.depth - 1) (omega arith)
    (c.loop-depth.invariant done passes s)
