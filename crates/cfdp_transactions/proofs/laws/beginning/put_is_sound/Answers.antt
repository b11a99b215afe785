use Rattle.cfdp_transactions.proofs.Beginnings.PutThere.{put_sound}
use Rattle.cfdp_transactions.proofs.laws.beginning.put_is_sound.Goals as goal

pub returns : goal.returns
returns c = put_sound
