use Rattle.std.proofs.Common.{◌≡◌, ◌++◌, take, flat_map}
use Rattle.cfdp_draw.specs.Lanes.{gap_text}
use Rattle.cfdp_draw.proofs.lanes.push_gaps.Given as goal

abbrev pub invariant-loop-gap : goal.invariant-loop-gap
invariant-loop-gap l = l.text.items ≡ l.initial.text.items ++ flat_map (gap_text l.size l.end l.span) (take l.gap-index l.gaps)
