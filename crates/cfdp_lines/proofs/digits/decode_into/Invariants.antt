use Rattle.std.proofs.Common.{◌≡◌, ◌≤◌, ◌-◌, true, length}
use Rattle.cfdp_lines.specs.code.Digits.{ArePairs}
use Rattle.cfdp_lines.proofs.digits.decode_into.Given as goal

-- all pairs so far are of digits
abbrev pub invariant-pieces : goal.invariant-pieces
invariant-pieces l = record {
  pairs : ArePairs l.word l.room l.start (true ≡ true);
  within : l.start ≤ length l.room;
}

abbrev pub decreases-pieces : goal.decreases-pieces
decreases-pieces l = length l.initial.room - l.start
