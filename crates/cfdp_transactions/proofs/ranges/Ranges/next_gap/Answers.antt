use Rattle.std.proofs.Common.{◌∙◌}
use Rattle.cfdp_transactions.proofs.Received.RangeSteps.{search_on, search_finds}
use Rattle.cfdp_transactions.proofs.ranges.Ranges.next_gap.Goals as goal

pub returns-then-at-range-clause-some : goal.returns-then-at-range-clause-some
returns-then-at-range-clause-some c =
    search_finds c.as_slice-range-items.result.now c.args.from c.loop-range.at c.loop-range.range-index c.loop-range-test.true c.loop-range.invariant
    c.args.self.now c.args.to c.min.result c.run.result (c.as_slice-range-items.ensures.value ∙ c.self.view_is) c.if-at-range.true c.min.ensures c.run.ensures

pub loop-range-preserved : goal.loop-range-preserved
loop-range-preserved c =
    search_on c.as_slice-range-items.result.now c.args.from c.loop-range.at c.loop-range.range-index c.loop-range-test.true c.loop-range.invariant
    c.max-at.result c.if-at-range.false c.max-at.ensures
