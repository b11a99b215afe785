use Rattle.std.proofs.Common.{◌≡◌, take}
use Rattle.cfdp_paths.specs.Paths.{ancestors}
use Rattle.cfdp_paths.proofs.paths.Path.ancestors.Given as goal

abbrev pub invariant-loop-count : goal.invariant-loop-count
invariant-loop-count l = l.paths.items ≡ ancestors (take l.count l.self)
