use Rattle.cfdp_checksum.proofs.ChecksumSteps.{zeros-add-nothing}
use Rattle.cfdp_checksum.proofs.laws.zeros_add_nothing.Goals as goal

pub returns : goal.returns
returns c = zeros-add-nothing
