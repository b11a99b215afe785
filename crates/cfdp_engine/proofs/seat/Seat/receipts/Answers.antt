use Rattle.std.proofs.Common.{rules}
use Rattle.cfdp_engine.proofs.seat.Seat.receipts.Goals as goal

pub returns : goal.returns
returns c = search rules
