use Rattle.cfdp_transactions.proofs.Beginnings.PutBack.{put_back}
use Rattle.cfdp_transactions.proofs.laws.beginning.put_back_is_same.Goals as goal

pub returns : goal.returns
returns c = put_back
