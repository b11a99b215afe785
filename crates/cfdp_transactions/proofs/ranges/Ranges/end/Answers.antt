use Rattle.std.proofs.Common.{ap, ◌∙◌, arith}
use Rattle.cfdp_transactions.specs.code.Pieces.{end_of}
use Rattle.cfdp_transactions.proofs.Received.RangeSteps.{last_end}
use Rattle.cfdp_transactions.proofs.ranges.Ranges.end.Goals as goal

pub returns-in-len1-up : goal.returns-in-len1-up
returns-in-len1-up c = last_end c.as_slice.result.now (omega (arith, c.in-len1-up.len_at_least)) ∙ ap end_of (c.as_slice.ensures.value ∙ c.self.view_is)
