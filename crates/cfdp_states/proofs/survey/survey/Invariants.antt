use Rattle.std.proofs.Common.{◌≤◌, length}
use Rattle.std.specs.FinMap.{empty}
use Rattle.cfdp_states.specs.code.Sketching.{AddsWhere}
use Rattle.cfdp_states.proofs.Surveys.{up_to}
use Rattle.cfdp_states.proofs.survey.survey.Given as goal

-- what is at and below the roots so far, and at the paths before them
abbrev pub invariant-loop-index : goal.invariant-loop-index
invariant-loop-index g l = record {
  adds : AddsWhere (up_to l.exclusive l.shared l.index l.next) (g.S.Filestore.state l.store).filestore empty l.extents;
  next : l.next ≤ length l.shared;
  last : l.last ≤ l.index;
}
