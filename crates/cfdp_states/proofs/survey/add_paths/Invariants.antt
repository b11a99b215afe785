use Rattle.std.proofs.Common.{take}
use Rattle.cfdp_states.specs.code.Sketching.{AddsWhere}
use Rattle.cfdp_states.proofs.Surveys.{one_of}
use Rattle.cfdp_states.proofs.survey.add_paths.Given as goal

-- what is at the paths so far
abbrev pub invariant-loop-path : goal.invariant-loop-path
invariant-loop-path g l = AddsWhere (one_of (take l.path-index l.paths)) (g.S.Filestore.state l.store).filestore l.fn.extents l.extents
