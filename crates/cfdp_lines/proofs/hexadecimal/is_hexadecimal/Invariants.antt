use Rattle.std.proofs.Common.{ℕ, List}
use Rattle.cfdp_lines.proofs.Decoding.{ToDecode}
use Rattle.cfdp_lines.proofs.hexadecimal.is_hexadecimal.Given as goal

abbrev pub invariant-loop-word : goal.invariant-loop-word
invariant-loop-word l = (octets : List ℕ) × ToDecode (goal.iterator-loop-word).next_gives l.word-iterator l.line octets
