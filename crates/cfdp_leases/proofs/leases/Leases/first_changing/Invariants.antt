use Rattle.std.proofs.Common.{◌≡◌, not, take}
use Rattle.std.specs.List.{prefix_len}
use Rattle.cfdp_leases.specs.code.Footprint.{has_any}
use Rattle.cfdp_leases.proofs.leases.Leases.first_changing.Given as goal

-- the first index by the paths so far
abbrev pub invariant-loop-path : goal.invariant-loop-path
invariant-loop-path l = l.first ≡ prefix_len (λ g. not (has_any (g.1.exclusive) (take l.path-index l.paths))) l.self
