use Rattle.std.proofs.Common.{◌≡◌}
use Rattle.cfdp_states.specs.code.Sketching.{added}
use Rattle.cfdp_states.proofs.survey.add_all.Given as goal

-- those added so far, and those to add yet
abbrev pub invariant-loop-existing : goal.invariant-loop-existing
invariant-loop-existing l = added l.existing-iterator.rest.items l.extents ≡ added l.fn.found.items l.fn.extents
