use Rattle.std.proofs.Common.{◌≡◌, sym, ◌∙◌, [], length, false, true, arith}
use Rattle.cfdp_actions.specs.Filestore.{has_entries}
use Rattle.cfdp_leases.specs.Footprint.{is_exclusive}
use Rattle.cfdp_states.specs.Alone.{alone}
use Rattle.cfdp_states.specs.Views.{only}
use Rattle.cfdp_states.specs.code.Sparse.{FillsAt, is_moved, shows, paths_in}
use Rattle.cfdp_states.proofs.SparseLists.{path_named}
use Rattle.cfdp_states.proofs.SparseSteps.{at_leased, nothing_hidden, empty_hidden, same_below}
use Rattle.cfdp_states.proofs.sparse_survey.add_path.Goals as goal
use Rattle.cfdp_states.proofs.sparse_survey.add_path.Goals.{else-is_full-via-then-is_full+else-depth-eq-MOST_NAMES, else-is_full-via-else-is_full, then-not-is_full-via-then-not-is_full, then-not-is_full-via-else-not-is_full+then-not-is_exclusive}

-- nothing is hidden below it
pub returns-then-not-is_full : goal.returns-then-not-is_full
returns-then-not-is_full g c = λ ok done s.
    let F = (g.S.Filestore.state c.args.store.now).filestore in
    let u = c.args.path.now in
    let fp = c.args.footprint.now in
    let requests = c.args.requests.now in
    let paths = paths_in c.args.paths.now in
    let path = c.depth-depth.ensures.within in
    let m = c.add_node.new.extents in
    let bare : (length u ≡ 8 → has_entries F u ≡ false) = elim c.else-is_full.branch [
      | else-is_full-via-then-is_full+else-depth-eq-MOST_NAMES w ↦ λ e. absurd (omega (arith, e, c.depth-depth.ensures.depth, w.if-depth-eq-MOST_NAMES.false))
      | else-is_full-via-else-is_full w ↦ λ e. sym c.has_entries-is_full.ensures ∙ w.if-is_full.false
    ] in
    let fills : FillsAt (shows paths) (is_moved requests) (alone (only fp F) []) u m m = elim c.then-not-is_full.branch [
      | then-not-is_full-via-then-not-is_full w ↦
          empty_hidden requests paths fp F c.requires.leased u (path_named u path) path.few c.requires.shown m
          (sym c.has_entries-is_full.ensures ∙ w.if-not-is_full.true)
      | then-not-is_full-via-else-not-is_full+then-not-is_exclusive w ↦
          nothing_hidden requests paths fp F c.requires.leased u (path_named u path) path.few c.requires.shown m
          (sym c.in_ok-is_exclusive.ensures.exclusive ∙ w.if-not-is_exclusive.true)
    ] in
    at_leased requests paths fp F c.requires.leased u (path_named u path) path.few c.requires.shown c.args.extents.now m m
    c.in_ok-is_exclusive.ensures.added bare fills done s

-- it is leased exclusively
pub returns : goal.returns
returns g c = λ ok done s.
    let F = (g.S.Filestore.state c.args.store.now).filestore in
    let u = c.args.path.now in
    let fp = c.args.footprint.now in
    let requests = c.args.requests.now in
    let paths = paths_in c.args.paths.now in
    let path = c.depth-depth.ensures.within in
    let bare : (length u ≡ 8 → has_entries F u ≡ false) = elim c.else-is_full.branch [
      | else-is_full-via-then-is_full+else-depth-eq-MOST_NAMES w ↦ λ e. absurd (omega (arith, e, c.depth-depth.ensures.depth, w.if-depth-eq-MOST_NAMES.false))
      | else-is_full-via-else-is_full w ↦ λ e. sym c.has_entries-is_full.ensures ∙ w.if-is_full.false
    ] in
    let leased : is_exclusive fp u ≡ true = sym c.in_ok-is_exclusive.ensures.exclusive ∙ c.if-not-is_exclusive.false in
    at_leased requests paths fp F c.requires.leased u (path_named u path) path.few c.requires.shown c.args.extents.now c.add_node.new.extents
    c.add_filler.new.extents c.in_ok-is_exclusive.ensures.added bare
    (c.add_filler.ensures ok (alone (only fp F) []) (λ x at. same_below fp F u leased x at)) done s
