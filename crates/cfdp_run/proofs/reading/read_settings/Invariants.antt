use Rattle.std.proofs.Common.{◌≡◌, length}
use Rattle.cfdp_lines.specs.Words.{words_of}
use Rattle.cfdp_run.specs.Commands.{settings, settings_in}
use Rattle.cfdp_run.proofs.reading.read_settings.Given as goal

abbrev pub invariant-words : goal.invariant-words
invariant-words l = settings_in l.fn.mib (words_of l.words) ≡ settings l.settings (words_of l.rest)

abbrev pub decreases-words : goal.decreases-words
decreases-words l = length (words_of l.rest)
