use Rattle.std.proofs.Common.{◌≡◌, ◌+◌, ◌-◌, ◌*◌, ◌<◌, ◌≤◌, take, drop, length}
use Rattle.cfdp_tree.specs.code.Runs.{IsAt, octets_of_run}
use Rattle.cfdp_tree.proofs.runs.Run.read.Given as goal

abbrev pub invariant-parts : goal.invariant-parts
invariant-parts l = record {
  within : l.filled ≤ length l.fn.buffer;
  octets : take l.filled l.buffer ≡ take l.filled (drop l.at (octets_of_run l.arena l.self));
  cursor : IsAt l.arena l.self l.cursor;
  inside : l.block_offset < 120;
  next : l.filled < length l.fn.buffer → 120 * l.cursor.index + l.block_offset ≡ l.at + l.filled;
  last : IsAt l.arena l.self l.last;
}

abbrev pub decreases-parts : goal.decreases-parts
decreases-parts l = length l.buffer - l.filled
