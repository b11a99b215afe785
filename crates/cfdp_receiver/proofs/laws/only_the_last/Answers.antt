use Rattle.cfdp_receiver.proofs.OnlyTheLast.{only_the_last}
use Rattle.cfdp_receiver.proofs.laws.only_the_last.Goals as goal

pub returns : goal.returns
returns c = only_the_last
