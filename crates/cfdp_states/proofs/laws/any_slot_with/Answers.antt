use Rattle.cfdp_states.proofs.AnySlot.{any_slot_with}
use Rattle.cfdp_states.proofs.laws.any_slot_with.Goals as goal

pub returns : goal.returns
returns c = any_slot_with
