use Rattle.std.proofs.Common.{rules}
use Rattle.std.specs.Prelude.{codes}
use Rattle.cfdp_draw.specs.MarkKinds.{kind_in_words}
use Rattle.cfdp_draw.specs.Marks.{words_text}
use Rattle.cfdp_draw.proofs.marks.push_words.Goals as goal
use Rattle.cfdp_status.proofs.Appended.{three}

pub returns : goal.returns
unfolding words_text
returns c =
    three c.extend_from_slice-3.result c.args.text.now.items c.extend_from_slice.new.self.items c.extend_from_slice-2.new.self.items
    c.extend_from_slice-3.new.self.items
    (codes "<text class=\"kind\" x=\"17\" y=\"11\">") (kind_in_words c.args.kind) (codes "</text>")
    c.in_ok-extend_from_slice.ensures.items (search rules) (search rules)
