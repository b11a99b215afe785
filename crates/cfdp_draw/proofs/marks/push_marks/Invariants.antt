use Rattle.std.proofs.Common.{◌≡◌, ◌++◌, take, flat_map}
use Rattle.cfdp_draw.specs.Marks.{mark_text}
use Rattle.cfdp_draw.proofs.marks.push_marks.Given as goal

abbrev pub invariant-loop-mark : goal.invariant-loop-mark
invariant-loop-mark l = l.text.items ≡ l.initial.text.items ++ flat_map (mark_text l.total) (take l.mark-index l.marks)
