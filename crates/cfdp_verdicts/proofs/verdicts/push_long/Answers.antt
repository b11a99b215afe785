use Rattle.std.proofs.Common.{rules}
use Rattle.std.specs.Prelude.{codes}
use Rattle.cfdp_verdicts.specs.Words.{grouped, long_words}
use Rattle.cfdp_verdicts.proofs.verdicts.push_long.Goals as goal
use Rattle.cfdp_status.proofs.Appended.{three}

pub returns : goal.returns
unfolding long_words
returns c =
    three c.push_text.result c.args.text.now.items c.extend_from_slice.new.self.items c.push_grouped.new.text.items c.push_text.new.text.items
    (codes "it may take ") (grouped c.args.steps) (codes " steps, and 65,536 are granted at most") c.in_ok-extend_from_slice.ensures.items
    (search rules) c.push_text.ensures
