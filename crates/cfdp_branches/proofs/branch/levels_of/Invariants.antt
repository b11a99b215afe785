use Rattle.std.proofs.Common.{◌≤◌}
use Rattle.cfdp_branches.specs.code.Branches.{AreLevels}
use Rattle.cfdp_branches.specs.code.Twigs.{twigs_of}
use Rattle.cfdp_branches.proofs.branch.levels_of.Given as goal

-- the levels of the branches so far
abbrev pub invariant-loop-twig : goal.invariant-loop-twig
invariant-loop-twig g l = record {
  so_far : AreLevels l.value (twigs_of l.twigs) l.twig-index l.levels;
  few : l.levels ≤ 10;
}
