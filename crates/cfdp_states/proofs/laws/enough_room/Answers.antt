use Rattle.cfdp_states.proofs.NextItem.{enough_room}
use Rattle.cfdp_states.proofs.laws.enough_room.Goals as goal

pub returns : goal.returns
returns c = enough_room
