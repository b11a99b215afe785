use Rattle.std.proofs.Common.{◌<◌, ◌-◌, length}
use Rattle.cfdp_lines.specs.code.Digits.{ArePairs, AreNibbles}
use Rattle.cfdp_lines.proofs.digits.decode_pairs.Given as goal

abbrev pub invariant-pairs : goal.invariant-pairs
invariant-pairs l = ArePairs l.word l.room l.index (l.seen < 16)

abbrev pub invariant-vectors : goal.invariant-vectors
invariant-vectors l = record {
  pairs : ArePairs l.word l.room l.start (AreNibbles l.lanes);
  within : l.start < length l.room;
}

abbrev pub decreases-vectors : goal.decreases-vectors
decreases-vectors l = length l.initial.room - l.start
