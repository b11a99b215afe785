use Rattle.std.proofs.Common.{[], take}
use Rattle.cfdp_states.specs.Alone.{alone}
use Rattle.cfdp_states.specs.Views.{only}
use Rattle.cfdp_states.specs.code.Sparse.{IsSparseSurvey, is_moved, is_shown, paths_in, shows}
use Rattle.cfdp_states.proofs.sparse_survey.survey_sparse.Given as goal

-- what is at and above the paths so far
abbrev pub invariant-loop-index : goal.invariant-loop-index
invariant-loop-index g l = IsSparseSurvey (is_moved l.requests) (shows (paths_in l.paths)) l.extents (λ p. is_shown (paths_in (take l.index l.entries)) p)
    (alone (only l.footprint (g.S.Filestore.state l.store).filestore) [])
