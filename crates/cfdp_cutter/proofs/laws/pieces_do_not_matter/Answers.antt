use Rattle.cfdp_cutter.proofs.Cuts.{pieces_do_not_matter}
use Rattle.cfdp_cutter.proofs.laws.pieces_do_not_matter.Goals as goal

pub returns : goal.returns
returns c = pieces_do_not_matter
