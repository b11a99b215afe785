use Rattle.std.proofs.Common.{◌≢◌, take}
use Rattle.std.specs.List.{AllByRecursion}
use Rattle.cfdp_draw.specs.declared.chart.Lane.{Lane}
use Rattle.cfdp_draw.proofs.chart.Chart.find.Given as goal

abbrev pub invariant-loop-index : goal.invariant-loop-index
invariant-loop-index l = AllByRecursion (λ (lane : Lane). lane.id ≢ l.id) (take l.index l.self.lanes.items)
