use Rattle.std.proofs.Common.{◌≡◌, length}
use Rattle.cfdp_lines.specs.Words.{words_of}
use Rattle.cfdp_lines.proofs.words.skip_spaces.Given as goal

abbrev pub invariant-spaces : goal.invariant-spaces
invariant-spaces l = words_of l.line ≡ words_of l.rest

abbrev pub decreases-spaces : goal.decreases-spaces
decreases-spaces l = length l.rest
