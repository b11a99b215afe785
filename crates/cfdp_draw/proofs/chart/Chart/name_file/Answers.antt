use Rattle.std.proofs.Common.{refl}
use Rattle.cfdp_draw.proofs.Gaining.{unmarked}
use Rattle.cfdp_draw.proofs.chart.Chart.name_file.Goals as goal

pub returns : goal.returns
returns c =
    unmarked c.args.self.now.lanes.items c.lane_of.new.self.lanes.items c.in_ok-index.index c.in-Some.lane.now
    (record c.in-Some.lane.now { file = c.args.file; size = c.max-lane.result }) c.args.id c.in_ok-index.ensures.lanes c.in-Some.ensures.value refl
