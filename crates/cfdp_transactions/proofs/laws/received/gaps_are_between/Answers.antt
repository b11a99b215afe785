use Rattle.cfdp_transactions.proofs.Received.PieceRanges.{gaps_are_between}
use Rattle.cfdp_transactions.proofs.laws.received.gaps_are_between.Goals as goal

pub returns : goal.returns
returns c = gaps_are_between
