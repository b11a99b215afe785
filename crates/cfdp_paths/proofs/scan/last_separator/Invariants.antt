use Rattle.std.proofs.Common.{◌≤◌, length}
use Rattle.memchr.specs.Find.{Nowhere, Passes}
use Rattle.cfdp_paths.specs.Paths.{is_separator}
use Rattle.cfdp_paths.proofs.scan.last_separator.Given as goal

-- there is no separator from the end on
abbrev pub invariant-loop-end : goal.invariant-loop-end
invariant-loop-end l = record {
  within : l.end ≤ length l.octets;
  none : Nowhere (Passes is_separator l.octets) l.end (length l.octets);
}

abbrev pub decreases-loop-end : goal.decreases-loop-end
decreases-loop-end l = l.end
