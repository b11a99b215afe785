use Rattle.cfdp_crc.proofs.AddedAndTaken.{unseals_sealed as proved}
use Rattle.cfdp_crc.proofs.laws.unseals_sealed.Goals as goal

pub returns : goal.returns
returns c = proved
