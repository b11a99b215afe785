use Rattle.cfdp_transactions.proofs.Promises.Keys.{each_key_from}
use Rattle.cfdp_transactions.proofs.laws.beginning.each_key_is_a_path_from.Goals as goal

pub returns : goal.returns
returns c = each_key_from c.keys_stay_paths.ensures
