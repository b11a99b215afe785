use Rattle.std.proofs.Common.{◌≡◌, ◌+◌, ◌≤◌, length, vec_len, vec_capacity}
use Rattle.std.specs.Vec.Iter.{into_iter_items, into_iter_len}
use Rattle.cfdp_paths.specs.PathMaps.{IsOrdered, puts}
use Rattle.cfdp_paths.proofs.relocating.put_moved.Given as goal

-- those put in so far, and those to put in yet
abbrev pub invariant-loop-path : goal.invariant-loop-path
invariant-loop-path g l = record {
  put : puts l.entries.items (into_iter_items l.path-iterator) ≡ puts l.fn.entries.items l.fn.moved.items;
  ordered : IsOrdered l.entries.items;
  room : vec_len l.entries + length (into_iter_items l.path-iterator) ≤ vec_capacity l.entries;
  left : into_iter_len l.path-iterator ≡ length (into_iter_items l.path-iterator);
}
