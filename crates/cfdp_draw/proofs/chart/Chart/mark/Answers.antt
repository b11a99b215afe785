use Rattle.std.proofs.Common.{◌≡◌, ◌∙◌, ap}
use Rattle.cfdp_draw.specs.code.Collecting.{next_of}
use Rattle.cfdp_draw.specs.declared.chart.Chart.{Chart}
use Rattle.cfdp_draw.specs.declared.chart.Mark.{Mark}
use Rattle.cfdp_draw.proofs.Gaining.{gained, one_more, this_moment}
use Rattle.cfdp_draw.proofs.chart.Chart.mark.Goals as goal

pub returns : goal.returns
returns c =
    let mark : Mark = record {
      at = next_of c.in-Some.lane.now c.args.direction c.lane_of.new.self.here;
      kind = c.args.kind;
      direction = c.args.direction;
      words = c.args.words;
    } in
    let here : mark.at.moments ≡ c.args.self.now.here.moments =
    this_moment c.in-Some.lane.now c.args.direction c.lane_of.new.self.here ∙ ap (λ (chart : Chart). chart.here.moments) c.in_ok-index.ensures.rest in
    gained c.args.self.now.lanes.items c.lane_of.new.self.lanes.items c.in_ok-index.index c.in-Some.lane.now c.push_mark.new.self c.args.id
    (record { moment = c.args.self.now.here.moments; kind = c.args.kind; direction = c.args.direction; words = c.args.words.items })
    c.in_ok-index.ensures.lanes c.in_ok-index.ensures.found c.in-Some.ensures.value c.in_ok-wide_marks.ensures.id
    (one_more c.in-Some.lane.now c.push_mark.new.self mark c.args.self.now.here c.in_ok-wide_marks.ensures.marks here)
