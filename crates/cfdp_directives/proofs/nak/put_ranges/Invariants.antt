use Rattle.std.proofs.Common.{◌≡◌, ◌+◌, length, take}
use Rattle.std.specs.List.{flat_map}
use Rattle.cfdp_pdus.specs.BufferParts.{with_octets_at}
use Rattle.cfdp_directives.specs.Spelling.{range_octets}
use Rattle.cfdp_directives.proofs.nak.put_ranges.Given as goal

abbrev pub invariant-loop-range : goal.invariant-loop-range
invariant-loop-range l = record {
  written : l.out ≡ with_octets_at l.fn.out l.at (flat_map (range_octets l.large) (take l.range-index l.ranges));
  offset : l.next ≡ l.at + length (flat_map (range_octets l.large) (take l.range-index l.ranges));
}
