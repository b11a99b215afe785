use Rattle.cfdp_transactions.proofs.Promises.OnlyTakeHandsOut as handing
use Rattle.cfdp_transactions.proofs.laws.only_take_hands_out.Goals as goal

pub returns : goal.returns
returns c = handing.only_take_hands_out
