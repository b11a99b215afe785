use Rattle.std.specs.Prelude.{codes}
use Rattle.cfdp_draw.specs.Notes.{why_text}
use Rattle.cfdp_draw.specs.Shapes.{label_text}
use Rattle.cfdp_draw.proofs.notes.push_why.Goals as goal
use Rattle.cfdp_status.proofs.Appended.{two}

pub returns : goal.returns
unfolding why_text
returns c =
    two c.push_label-2.result c.args.text.now.items c.push_label.new.text.items c.push_label-2.new.text.items
    (label_text (codes "note") (record { x = 10; y = c.args.y }) (codes "The run ends early:"))
    (label_text (codes "note") (record { x = 160; y = c.args.y }) c.args.why.now) c.in_ok-push_label.ensures c.push_label-2.ensures
