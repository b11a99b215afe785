use Rattle.cfdp_transactions.proofs.Beginnings.PutThere.{put_good}
use Rattle.cfdp_transactions.proofs.laws.beginning.put_is_good.Goals as goal

pub returns : goal.returns
returns c = put_good
