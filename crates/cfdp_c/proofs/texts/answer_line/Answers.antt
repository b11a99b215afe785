use Rattle.std.proofs.Common.{rules}
use Rattle.cfdp_c.proofs.texts.answer_line.Goals as goal

pub returns-in-34 : goal.returns-in-34
returns-in-34 c = search rules
