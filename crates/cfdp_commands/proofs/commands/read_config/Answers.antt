use Rattle.std.proofs.Common.{rules, sym}
use Rattle.cfdp_lines.specs.Words.{numbers_of, words_of}
use Rattle.cfdp_lines.proofs.Answering.{not_few}
use Rattle.cfdp_commands.proofs.Answering.{config_by-none}
use Rattle.cfdp_commands.proofs.commands.read_config.Goals as goal

pub returns-in_default : goal.returns-in_default
returns-in_default c =
    let words = words_of c.args.words.now in
    sym (config_by-none (numbers_of words) (not_few words (c.numbers_of.ensures.none (search rules))))
