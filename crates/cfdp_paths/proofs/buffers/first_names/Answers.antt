use Rattle.std.proofs.Common.{arith}
use Rattle.cfdp_paths.proofs.Separators.{cut_there, cut_nowhere}
use Rattle.cfdp_paths.proofs.buffers.first_names.Goals as goal

pub returns-then-left-eq0 : goal.returns-then-left-eq0
returns-then-left-eq0 c =
    cut_there c.args.octets.now c.loop-offset.offset c.args.count c.loop-offset.left c.loop-offset-test.true c.if-octet-eq-SEPARATOR.true
    c.loop-offset.invariant.passed (omega arith)

pub returns : goal.returns
returns c = cut_nowhere c.args.octets.now c.loop-offset.offset c.args.count c.loop-offset.left c.loop-offset-test.false c.loop-offset.invariant.passed
    c.loop-offset.invariant.some
