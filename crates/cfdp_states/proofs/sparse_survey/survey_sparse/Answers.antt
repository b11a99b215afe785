use Rattle.std.proofs.Common.{◌≡◌, true, List, sym, ◌∙◌, ap, subst, [], take, Ok}
use Rattle.std.specs.Bool.{⊤}
use Rattle.cfdp_paths.specs.Paths.{Path}
use Rattle.cfdp_states.specs.Alone.{alone}
use Rattle.cfdp_states.specs.Sketching.{Extents}
use Rattle.cfdp_states.specs.Views.{only}
use Rattle.cfdp_states.specs.code.Sparse.{IsSparseSurvey, is_moved, is_shown, paths_in, shows}
use Rattle.cfdp_states.proofs.SparseSurveys.{nothing_sparse}
use Rattle.cfdp_states.proofs.SparseSteps.{shown_at, next_path, all_paths}
use Rattle.cfdp_states.proofs.sparse_survey.survey_sparse.Goals as goal

pub loop-index-init : goal.loop-index-init
loop-index-init g c =
    let F = alone (only c.args.footprint.now (g.S.Filestore.state c.args.store.now).filestore) [] in
    subst (λ (m : Extents). IsSparseSurvey (is_moved c.args.requests.now) (shows (paths_in c.args.paths.now)) m (λ p. is_shown [] p) F)
    (sym c.empty_form-extents.ensures)
    (nothing_sparse (is_moved c.args.requests.now) (shows (paths_in c.args.paths.now)) F)

pub add_beginnings-requires-clause-shown : goal.add_beginnings-requires-clause-shown
add_beginnings-requires-clause-shown g c =
    let entry = c.index-entries-index.result in
    subst (λ (es : List (Path × ⊤)). is_shown (paths_in es) entry.0 ≡ true) c.entries-entries.ensures.entries
    (shown_at c.entries-entries.result.now c.loop-index.index entry c.loop-index-test.true c.index-entries-index.is)

pub loop-index-preserved : goal.loop-index-preserved
loop-index-preserved g c =
    let F = alone (only c.args.footprint.now (g.S.Filestore.state c.args.store.now).filestore) [] in
    let es = c.entries-entries.result.now in
    let i = c.loop-index.index in
    next_path (is_moved c.args.requests.now) (paths_in c.args.paths.now) F c.add_beginnings.new.extents es i c.index-entries-index.result
    c.loop-index-test.true c.index-entries-index.is
    (c.add_beginnings.ensures (c.in_ok-add_beginnings.was ∙ ap Ok c.if-not-branch.false) (λ p. is_shown (paths_in (take i es)) p)
    c.known_depth-known.ensures.known c.loop-index.invariant)

pub returns-clause-extents : goal.returns-clause-extents
returns-clause-extents g c =
    let F = alone (only c.args.footprint.now (g.S.Filestore.state c.args.store.now).filestore) [] in
    let known = is_moved c.args.requests.now in
    let paths = paths_in c.args.paths.now in
    subst (λ (es : List (Path × ⊤)). IsSparseSurvey known (shows paths) c.loop-index.extents (λ p. is_shown (paths_in es) p) F)
    c.entries-entries.ensures.entries
    (all_paths known paths F c.loop-index.extents c.entries-entries.result.now c.loop-index.index c.loop-index-test.false c.loop-index.invariant)
