use Rattle.cfdp_lines.proofs.Decoding.{ToDecode}
use Rattle.cfdp_lines.proofs.hexadecimal.decode_spaced.Given as goal

abbrev pub invariant-loop-word : goal.invariant-loop-word
invariant-loop-word l = ToDecode (goal.iterator-loop-word).next_gives l.word-iterator l.line l.octets.items
