use Rattle.std.proofs.Common.{arith}
use Rattle.core.proofs.cmp.Settled.{equal_as}
use Rattle.cfdp_paths.proofs.octet_order.is_same.Goals as goal

pub returns : goal.returns
returns c = equal_as c.args.a.now c.args.b.now c.deciding_words-x.result.0 c.deciding_words-x.result.1 (omega arith) c.deciding_words-x.ensures
