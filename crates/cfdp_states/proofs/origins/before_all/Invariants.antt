use Rattle.std.proofs.Common.{map, drop}
use Rattle.cfdp_actions.specs.Actions.{Perform}
use Rattle.cfdp_states.specs.code.Sparse.{SeesBy}
use Rattle.cfdp_states.proofs.origins.before_all.Given as goal

-- the paths show what the requests from here on see
abbrev pub invariant-loop-number : goal.invariant-loop-number
invariant-loop-number l = SeesBy l.paths.items (map Perform (drop l.number l.requests))
