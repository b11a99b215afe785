use Rattle.std.proofs.Common.{◌≡◌, ◌∙◌, ℕ, slice_set}
use Rattle.cfdp_draw.specs.Collecting.{marks_at}
use Rattle.cfdp_draw.proofs.Gaining.{same_marks_shown, unmarked}
use Rattle.cfdp_draw.proofs.Texts.{on_ok}
use Rattle.cfdp_draw.proofs.chart.Chart.see.Goals as goal

pub returns : goal.returns
returns c =
    on_ok c.see_file.result
    ((k : ℕ) → marks_at (slice_set c.lane_of.new.self.lanes.items c.in_ok-index.index c.see_file.new.self) k ≡ marks_at c.args.self.now.lanes.items k)
    (unmarked c.args.self.now.lanes.items c.lane_of.new.self.lanes.items c.in_ok-index.index c.in-Some.lane.now c.see_file.new.self c.args.id
    c.in_ok-index.ensures.lanes c.in-Some.ensures.value (same_marks_shown c.in-Some.lane.now c.see_file.new.self (c.see_file.ensures.marks
    ∙ c.in_ok-see_phase.ensures.marks)))
