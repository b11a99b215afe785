use Rattle.std.proofs.Common.{◌≡◌, ◌+◌, ◌-◌, ◌*◌, ◌<◌, ◌≤◌, take, drop, length}
use Rattle.cfdp_actions.specs.Store.{overwritten}
use Rattle.cfdp_tree.specs.code.Frames.{WritesOnly}
use Rattle.cfdp_tree.specs.code.Runs.{IsAt, octets_of_run}
use Rattle.cfdp_tree.proofs.runs.Run.write.Given as goal

abbrev pub invariant-parts : goal.invariant-parts
invariant-parts l = record {
  only : WritesOnly l.fn.arena l.arena l.self;
  fewer : length l.rest ≤ length l.octets;
  rest : l.rest ≡ drop (length l.octets - length l.rest) l.octets;
  octets : octets_of_run l.arena l.self ≡ overwritten (octets_of_run l.fn.arena l.self) l.at (take (length l.octets - length l.rest) l.octets);
  cursor : IsAt l.arena l.self l.cursor;
  inside : l.block_offset < 120;
  next : 0 < length l.rest → 120 * l.cursor.index + l.block_offset ≡ l.at + (length l.octets - length l.rest);
  last : IsAt l.arena l.self l.last;
}

abbrev pub decreases-parts : goal.decreases-parts
decreases-parts l = length l.rest
