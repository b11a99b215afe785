use Rattle.std.proofs.Common.{◌≡◌, ◌++◌, length, flat_map, Ok}
use Rattle.cfdp_lines.specs.Words.{words_of}
use Rattle.cfdp_texts.specs.Replies.{word}
use Rattle.cfdp_run.specs.Commands.{line_in}
use Rattle.cfdp_run.proofs.reading.read_line.Given as goal

abbrev pub invariant-words : goal.invariant-words
invariant-words l = line_in (words_of l.words) ≡ Ok (l.line.items ++ flat_map word (words_of l.rest))

abbrev pub decreases-words : goal.decreases-words
decreases-words l = length (words_of l.rest)
