use Rattle.memchr.specs.Find.{Nowhere, Passes}
use Rattle.cfdp_paths.specs.Paths.{is_separator}
use Rattle.cfdp_paths.proofs.scan.first_of_few.Given as goal

-- there is no separator before the index
abbrev pub invariant-loop-offset : goal.invariant-loop-offset
invariant-loop-offset l = Nowhere (Passes is_separator l.octets) 0 l.offset
