use Rattle.std.proofs.Common.{◌≡◌, ◌+◌, ◌-◌, ◌*◌, ◌<◌, ◌≤◌, take, drop}
use Rattle.cfdp_checksum.specs.Checksum.{checksum_at}
use Rattle.cfdp_tree.specs.code.Runs.{IsAt, octets_of_run}
use Rattle.cfdp_tree.proofs.runs.Run.sum_of.Given as goal

abbrev pub invariant-parts : goal.invariant-parts
invariant-parts l = record {
  fewer : l.left ≤ l.len;
  sum : l.sum ≡ checksum_at l.fn.offset (take (l.len - l.left) (drop l.at (octets_of_run l.arena l.self)));
  offset : l.offset ≡ l.fn.offset + (l.len - l.left);
  cursor : IsAt l.arena l.self l.cursor;
  inside : l.block_offset < 120;
  next : 0 < l.left → 120 * l.cursor.index + l.block_offset ≡ l.at + (l.len - l.left);
}

abbrev pub decreases-parts : goal.decreases-parts
decreases-parts l = l.left
