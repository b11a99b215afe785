use Rattle.cfdp_transactions.proofs.Soundness.NextWorld.{next_sound}
use Rattle.cfdp_transactions.proofs.laws.next_is_sound.Goals as goal

pub returns : goal.returns
returns c = λ W event s. next_sound c.lower_laws.ensures W s event
