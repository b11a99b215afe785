use Rattle.cfdp_draw.proofs.AxisPositions.{time_goes_right}
use Rattle.cfdp_draw.proofs.laws.time_goes_right.Goals as goal

pub returns : goal.returns
returns c = time_goes_right
