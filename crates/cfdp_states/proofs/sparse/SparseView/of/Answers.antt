use Rattle.std.proofs.Common.{sym, subst, [], arith}
use Rattle.std.specs.Option.{option_copied}
use Rattle.cfdp_leases.specs.Items.{items_of}
use Rattle.cfdp_actions.specs.Filestore.{blocks}
use Rattle.cfdp_states.specs.Alone.{alone}
use Rattle.cfdp_states.specs.Views.{Sketch, only}
use Rattle.cfdp_states.specs.Sparse.{IsSparseViewOf}
use Rattle.cfdp_states.specs.code.Sparse.{IsSparseSurvey, is_moved, is_shown, paths_in, shows}
use Rattle.cfdp_states.proofs.SparseLists.{knows_items}
use Rattle.cfdp_states.proofs.SparseSteps.{all_shown}
use Rattle.cfdp_states.proofs.SparseSurveys.{sparse_view}
use Rattle.cfdp_states.proofs.sparse.SparseView.of.Goals as goal

pub returns-clause-stated : goal.returns-clause-stated
returns-clause-stated g c =
    let F = (g.S.Filestore.state c.args.store.now).filestore in
    let G = alone (only c.args.footprint.now F) [] in
    let requests = c.args.requests.now in
    let items = items_of (option_copied c.args.destination) requests in
    let paths = paths_in c.in_ok-paths.paths in
    let m = c.in-Some.extents in
    let survey : IsSparseSurvey (is_moved requests) (shows paths) m (λ p. is_shown paths p) G = rw c.in-Some.is at c.in_ok-extents.ensures.extents in
    subst (λ (v : Sketch). IsSparseViewOf v items G (blocks G) (blocks G) 0) (sym c.begun-view.ensures)
    (sparse_view (is_moved requests) (shows paths) c.args.footprint.now F c.args.protected.now m (λ p. is_shown paths p) items
    survey (λ p seen. all_shown paths p seen) c.survey_sparse.ensures.small
    (omega (arith, c.blocks-2.ensures.value, c.if-blocks-gt-MOST_BLOCKS.false))
    (c.in_ok-paths.ensures.sees (shows paths) (λ x s. s)) (knows_items (option_copied c.args.destination) requests))
