use Rattle.std.proofs.Common.{length}
use Rattle.memchr.specs.Find.{Nowhere, Passes}
use Rattle.cfdp_paths.specs.Paths.{is_separator}
use Rattle.cfdp_paths.proofs.scan.last_of_few.Given as goal

-- there is no separator from the offset on
abbrev pub invariant-loop-offset : goal.invariant-loop-offset
invariant-loop-offset l = Nowhere (Passes is_separator l.octets) l.offset (length l.octets)
