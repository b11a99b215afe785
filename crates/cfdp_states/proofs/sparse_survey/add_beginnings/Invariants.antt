use Rattle.std.proofs.Common.{[], ◌||◌, ◌-◌, Bool, take}
use Rattle.cfdp_paths.specs.Paths.{Path, is_at_or_below}
use Rattle.cfdp_states.specs.Alone.{alone}
use Rattle.cfdp_states.specs.Views.{only}
use Rattle.cfdp_states.specs.code.Sparse.{IsSparseSurvey, is_moved, shows, paths_in, PassAbove}
use Rattle.cfdp_states.proofs.sparse_survey.add_beginnings.Given as goal

-- what is at the beginnings so far
abbrev pub invariant-loop-depth : goal.invariant-loop-depth
invariant-loop-depth g l = (done : Path → Bool) → PassAbove done (take l.fn.known l.path) →
    IsSparseSurvey (is_moved l.requests) (shows (paths_in l.paths)) l.fn.extents done (alone (only l.footprint (g.S.Filestore.state l.store).filestore) []) →
    IsSparseSurvey (is_moved l.requests) (shows (paths_in l.paths)) l.extents (λ p. done p || is_at_or_below (take (l.depth - 1) l.path) p)
    (alone (only l.footprint (g.S.Filestore.state l.store).filestore) [])
