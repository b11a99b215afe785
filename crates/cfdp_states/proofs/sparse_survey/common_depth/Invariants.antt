use Rattle.std.proofs.Common.{◌≡◌, drop, take}
use Rattle.cfdp_states.proofs.sparse_survey.common_depth.Given as goal

-- the names so far are shared
abbrev pub invariant-loop-depth : goal.invariant-loop-depth
invariant-loop-depth l = record {
  ours : l.ours ≡ drop l.depth l.path;
  theirs : l.theirs ≡ drop l.depth l.other;
  shared : take l.depth l.other ≡ take l.depth l.path;
}
