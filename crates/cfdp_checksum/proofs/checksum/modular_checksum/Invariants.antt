use Rattle.std.proofs.Common.{◌≡◌, ◌+◌, ◌%◌, ◌^◌, length}
use Rattle.cfdp_checksum.specs.Checksum.{weighed_from, checksum}
use Rattle.cfdp_checksum.proofs.checksum.modular_checksum.Given as goal

abbrev pub invariant-words : goal.invariant-words
invariant-words l = (l.sum + weighed_from 0 l.rest) % 2 ^ 32 ≡ checksum l.octets

abbrev pub decreases-words : goal.decreases-words
decreases-words l = length l.rest
