use Rattle.std.proofs.Common.{◌≡◌, ◌+◌, length}
use Rattle.cfdp_lines.specs.Words.{numbers_of, words_of}
use Rattle.cfdp_lines.proofs.Wording.{numbers_after}
use Rattle.cfdp_lines.proofs.words.numbers_of.Given as goal

abbrev pub invariant-words : goal.invariant-words
invariant-words l =
    (numbers_after l.numbers.items (numbers_of (words_of l.rest)) ≡ numbers_of (words_of l.line))
    × (length l.numbers.items + length (words_of l.rest) ≡ length (words_of l.line))

abbrev pub decreases-words : goal.decreases-words
decreases-words l = length (words_of l.rest)
