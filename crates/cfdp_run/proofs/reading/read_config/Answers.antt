use Rattle.std.proofs.Common.{rules, sym}
use Rattle.cfdp_lines.specs.Words.{words_of}
use Rattle.cfdp_lines.proofs.Answering.{not_few}
use Rattle.cfdp_run.proofs.Lines.{config_in-none}
use Rattle.cfdp_run.proofs.reading.read_config.Goals as goal

pub returns-in_default : goal.returns-in_default
returns-in_default c = sym (config_in-none c.args.progress _ (not_few (words_of c.args.words.now) (c.numbers_of.ensures.none (search rules))))
