use Rattle.std.proofs.Common.{rules, sym}
use Rattle.cfdp_lines.specs.Words.{words_of}
use Rattle.cfdp_lines.proofs.Answering.{not_few, id_by-none}
use Rattle.cfdp_lines.proofs.words.id_in.Goals as goal

pub returns-in_default : goal.returns-in_default
returns-in_default c = sym (id_by-none _ (not_few (words_of c.args.line.now) (c.numbers_of.ensures.none (search rules))))
