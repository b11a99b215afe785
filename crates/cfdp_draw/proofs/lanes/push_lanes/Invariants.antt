use Rattle.std.proofs.Common.{◌≡◌, ◌++◌, take, flat_map}
use Rattle.cfdp_draw.specs.Lanes.{lane_text}
use Rattle.cfdp_draw.proofs.lanes.push_lanes.Given as goal

abbrev pub invariant-loop-lane : goal.invariant-loop-lane
invariant-loop-lane l = l.text.items ≡ l.initial.text.items ++ flat_map (lane_text l.total) (take l.lane-index l.lanes)
