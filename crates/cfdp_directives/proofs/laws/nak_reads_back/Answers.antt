use Rattle.cfdp_directives.proofs.ReadingBack.{nak_reads_back as proved}
use Rattle.cfdp_directives.proofs.laws.nak_reads_back.Goals as goal

pub returns : goal.returns
returns c = proved
