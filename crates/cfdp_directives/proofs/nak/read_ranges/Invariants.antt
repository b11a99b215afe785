use Rattle.std.proofs.Common.{◌≡◌, ◌++◌, drop}
use Rattle.cfdp_directives.specs.Reading.{ranges_at}
use Rattle.cfdp_directives.proofs.nak.read_ranges.Given as goal

abbrev pub invariant-loop-n : goal.invariant-loop-n
invariant-loop-n l = l.ranges ≡ ranges_at l.large l.n l.octets ++ drop l.n l.fn.ranges
