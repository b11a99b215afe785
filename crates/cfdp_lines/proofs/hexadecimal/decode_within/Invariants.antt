use Rattle.std.proofs.Common.{◌≤◌, length, take}
use Rattle.cfdp_lines.proofs.Decoding.{ToDecode}
use Rattle.cfdp_lines.proofs.hexadecimal.decode_within.Given as goal

abbrev pub invariant-loop-word : goal.invariant-loop-word
invariant-loop-word l =
    ToDecode (goal.iterator-loop-word).next_gives l.word-iterator l.line (take l.len l.room) × (l.len ≤ length l.room)
