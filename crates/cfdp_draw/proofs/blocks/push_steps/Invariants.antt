use Rattle.std.proofs.Common.{◌≡◌, ◌++◌, take, flat_map}
use Rattle.cfdp_draw.specs.Blocks.{step_text}
use Rattle.cfdp_draw.proofs.blocks.push_steps.Given as goal

abbrev pub invariant-loop-moment : goal.invariant-loop-moment
invariant-loop-moment l = l.text.items ≡ l.initial.text.items ++ flat_map (step_text l.line l.total l.size) (take l.moment-index l.moments)
