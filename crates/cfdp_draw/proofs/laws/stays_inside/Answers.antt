use Rattle.cfdp_draw.proofs.AxisPositions.{stays_inside}
use Rattle.cfdp_draw.proofs.laws.stays_inside.Goals as goal

pub returns : goal.returns
returns c = stays_inside
