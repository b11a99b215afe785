use Rattle.cfdp_uploads.proofs.Pieces.{whole}
use Rattle.cfdp_uploads.proofs.laws.pieces_are_the_file.Goals as goal

pub returns : goal.returns
returns c = whole
