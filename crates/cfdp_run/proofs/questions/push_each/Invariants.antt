use Rattle.std.proofs.Common.{◌≡◌, ◌++◌, take, flat_map}
use Rattle.cfdp_run.specs.Questions.{range_text}
use Rattle.cfdp_run.proofs.questions.push_each.Given as goal

abbrev pub invariant-loop-range : goal.invariant-loop-range
invariant-loop-range l = l.text.items ≡ l.initial.text.items ++ flat_map range_text (take l.range-index l.ranges)
