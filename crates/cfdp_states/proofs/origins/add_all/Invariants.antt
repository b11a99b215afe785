use Rattle.std.proofs.Common.{◌++◌, take}
use Rattle.cfdp_states.specs.code.Sparse.{AreSame, paths_in}
use Rattle.cfdp_states.proofs.origins.add_all.Given as goal

-- those so far are in
abbrev pub invariant-loop-path : goal.invariant-loop-path
invariant-loop-path l = AreSame (paths_in l.paths) (paths_in l.fn.paths ++ take l.path-index l.others)
