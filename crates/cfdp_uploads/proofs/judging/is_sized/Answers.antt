use Rattle.std.proofs.Common.{arith}
use Rattle.cfdp_uploads.proofs.Numbers.{sized_by_shift}
use Rattle.cfdp_uploads.proofs.judging.is_sized.Goals as goal

pub returns : goal.returns
returns c = sized_by_shift c.args.len c.args.number (omega (arith, c.if-len-eq0.false)) c.if-len-gt8.false
