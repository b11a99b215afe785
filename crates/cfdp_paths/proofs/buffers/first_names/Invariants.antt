use Rattle.std.proofs.Common.{◌≡◌, ◌+◌, ◌≤◌, take}
use Rattle.std.specs.List.{count_by}
use Rattle.cfdp_paths.specs.Paths.{is_separator}
use Rattle.cfdp_paths.proofs.buffers.first_names.Given as goal

abbrev pub invariant-loop-offset : goal.invariant-loop-offset
invariant-loop-offset l = record { some : 1 ≤ l.left; passed : count_by is_separator (take l.offset l.octets) + l.left ≡ l.count }
