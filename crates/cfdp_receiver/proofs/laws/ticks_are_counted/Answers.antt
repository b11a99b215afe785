use Rattle.cfdp_receiver.proofs.OwnTime.{ticks_are_counted}
use Rattle.cfdp_receiver.proofs.laws.ticks_are_counted.Goals as goal

pub returns : goal.returns
returns c = ticks_are_counted
