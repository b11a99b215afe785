use Rattle.std.proofs.Common.{refl}
use Rattle.cfdp_transactions.proofs.laws.beginning.start_is_empty.Goals as goal

pub returns : goal.returns
returns c = λ config. refl
