use Rattle.cfdp_transactions.proofs.Received.PieceRanges.{pieces_are_ranges}
use Rattle.cfdp_transactions.proofs.laws.received.pieces_are_ranges.Goals as goal

pub returns : goal.returns
returns c = pieces_are_ranges
