use Rattle.cfdp_checksum.proofs.ChecksumSteps.{pieces-add-up}
use Rattle.cfdp_checksum.proofs.laws.pieces_add_up.Goals as goal

pub returns : goal.returns
returns c = pieces-add-up
