use Rattle.std.proofs.Common.{◌-◌}
use Rattle.memchr.specs.Find.{Nowhere, Passes}
use Rattle.cfdp_paths.specs.Paths.{is_separator}
use Rattle.cfdp_paths.proofs.scan.first_separator.Given as goal

-- there is no separator before the start
abbrev pub invariant-loop-start : goal.invariant-loop-start
invariant-loop-start l = Nowhere (Passes is_separator l.octets) 0 l.start

abbrev pub decreases-loop-start : goal.decreases-loop-start
decreases-loop-start l = l.last - l.start
