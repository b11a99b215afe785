use Rattle.std.proofs.Common.{◌≡◌, ◌++◌, length}
use Rattle.cfdp_draw.specs.Lanes.{phases_text}
use Rattle.cfdp_draw.proofs.lanes.push_phases.Given as goal

abbrev pub invariant-phases : goal.invariant-phases
invariant-phases l = l.text.items ++ phases_text l.total l.rest ≡ l.initial.text.items ++ phases_text l.total l.phases

abbrev pub decreases-phases : goal.decreases-phases
decreases-phases l = length l.rest
