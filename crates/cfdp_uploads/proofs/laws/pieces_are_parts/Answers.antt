use Rattle.cfdp_uploads.proofs.Pieces.{parts}
use Rattle.cfdp_uploads.proofs.laws.pieces_are_parts.Goals as goal

pub returns : goal.returns
returns c = parts
