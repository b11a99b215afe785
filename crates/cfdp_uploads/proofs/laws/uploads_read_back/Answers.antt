use Rattle.cfdp_uploads.proofs.Pieces.{read_back}
use Rattle.cfdp_uploads.proofs.laws.uploads_read_back.Goals as goal

pub returns : goal.returns
returns c = read_back
