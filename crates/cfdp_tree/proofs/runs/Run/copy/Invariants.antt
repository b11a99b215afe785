use Rattle.std.proofs.Common.{◌≡◌, ◌+◌, ◌*◌, ◌/◌, min, take}
use Rattle.cfdp_actions.specs.Store.{overwritten}
use Rattle.cfdp_tree.specs.code.Frames.{WritesOnly}
use Rattle.cfdp_tree.specs.code.Runs.{IsHeld, IsAt, octets_of_run}
use Rattle.cfdp_tree.proofs.runs.Run.copy.Given as goal

abbrev pub invariant-loop-index : goal.invariant-loop-index
invariant-loop-index l = record {
  only : WritesOnly l.fn.arena l.arena l.self;
  octets : octets_of_run l.arena l.self ≡ overwritten (octets_of_run l.fn.arena l.self) l.at
      (take (min l.len (120 * l.index)) (octets_of_run l.fn.arena l.source));
  target : IsAt l.arena l.self l.target;
  target_index : l.target.index ≡ l.at / 120 + l.index;
  source : IsHeld l.arena l.source;
  source_octets : take l.len (octets_of_run l.arena l.source) ≡ take l.len (octets_of_run l.fn.arena l.source);
  from : IsAt l.arena l.source l.from;
  from_index : l.from.index ≡ l.index;
}
