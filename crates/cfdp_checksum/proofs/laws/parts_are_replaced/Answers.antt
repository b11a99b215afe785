use Rattle.cfdp_checksum.proofs.ChecksumSteps.{parts-are-replaced}
use Rattle.cfdp_checksum.proofs.laws.parts_are_replaced.Goals as goal

pub returns : goal.returns
returns c = parts-are-replaced
