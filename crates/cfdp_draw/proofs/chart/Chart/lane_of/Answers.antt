use Rattle.std.proofs.Common.{inr}
use Rattle.cfdp_draw.proofs.chart.Chart.lane_of.Goals as goal

pub returns-clause-lanes : goal.returns-clause-lanes
returns-clause-lanes c = inr (record {
  lane = c.new.result;
  is = c.in_ok-push.ensures.items;
  of = c.new.ensures.id;
  bare = c.new.ensures.marks;
  fresh = c.find.ensures.none c.in_default.is;
})
