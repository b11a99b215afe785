use Rattle.std.proofs.Common.{◌≡◌, ◌+◌, ◌≤◌, ◌++◌, length, vec_len, vec_capacity}
use Rattle.std.specs.Vec.Iter.{into_iter_items, into_iter_len}
use Rattle.cfdp_paths.specs.code.PathMaps.{with_paths}
use Rattle.cfdp_paths.proofs.relocating.renamed.Given as goal

-- those renamed so far, and those to rename yet
abbrev pub invariant-loop-value : goal.invariant-loop-value
invariant-loop-value g l = record {
  renamed : l.moved.items ++ with_paths l.paths.items (into_iter_items l.value-iterator) ≡ with_paths l.fn.paths.items l.fn.entries.items;
  paths : length l.paths.items ≡ length (into_iter_items l.value-iterator);
  room : vec_len l.moved + length l.paths.items ≤ vec_capacity l.moved;
  left : into_iter_len l.value-iterator ≡ length (into_iter_items l.value-iterator);
}
