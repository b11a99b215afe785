use Rattle.std.proofs.Common.{◌≡◌, ◌≤◌, ◌-◌, length, take}
use Rattle.cfdp_paths.specs.Paths.{names_of}
use Rattle.cfdp_paths.proofs.buffers.without_last.Given as goal

-- the names up to the end are all but those dropped so far
abbrev pub invariant-loop-dropped : goal.invariant-loop-dropped
invariant-loop-dropped l = record {
  within : l.end ≤ length l.octets;
  names : names_of (take l.end l.octets) ≡ take (length (names_of l.octets) - l._dropped) (names_of l.octets);
}
