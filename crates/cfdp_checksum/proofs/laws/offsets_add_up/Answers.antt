use Rattle.cfdp_checksum.proofs.ChecksumSteps.{offsets-add-up}
use Rattle.cfdp_checksum.proofs.laws.offsets_add_up.Goals as goal

pub returns : goal.returns
returns c = offsets-add-up
