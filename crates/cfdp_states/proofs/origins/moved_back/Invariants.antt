use Rattle.std.proofs.Common.{◌≡◌, ◌++◌}
use Rattle.cfdp_states.specs.code.Sparse.{moved_back}
use Rattle.cfdp_states.proofs.origins.moved_back.Given as goal

-- those so far have moved back, and the others are to
abbrev pub invariant-loop-path : goal.invariant-loop-path
invariant-loop-path l = l.moved.items ++ moved_back l.from l.to l.path-iterator.rest.items ≡ moved_back l.from l.to l.fn.paths.items
