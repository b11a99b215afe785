use Rattle.std.proofs.Common.{ap, sym, ◌∙◌}
use Rattle.cfdp_lines.specs.Hexadecimal.{octets_of_words}
use Rattle.cfdp_lines.proofs.Wording.{words_spell}
use Rattle.cfdp_lines.proofs.hexadecimal.decode_words.Goals as goal

pub returns-clause-octets : goal.returns-clause-octets
returns-clause-octets c =
    rw (ap octets_of_words (sym c.skip_spaces.ensures.words) ∙ words_spell c.skip_spaces.result.now) c.decode_line.ensures.octets

pub returns-clause-bad : goal.returns-clause-bad
returns-clause-bad c =
    rw (ap octets_of_words (sym c.skip_spaces.ensures.words) ∙ words_spell c.skip_spaces.result.now) c.decode_line.ensures.bad

pub returns-clause-some : goal.returns-clause-some
returns-clause-some c =
    rw (ap octets_of_words (sym c.skip_spaces.ensures.words) ∙ words_spell c.skip_spaces.result.now) c.decode_line.ensures.some
