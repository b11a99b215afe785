use Rattle.cfdp_states.proofs.AnySlot.{any_slot}
use Rattle.cfdp_states.proofs.laws.any_slot.Goals as goal

pub returns : goal.returns
returns c = any_slot
