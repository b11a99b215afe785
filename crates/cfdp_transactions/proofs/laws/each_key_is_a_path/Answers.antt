use Rattle.cfdp_transactions.proofs.Promises.Keys as keys
use Rattle.cfdp_transactions.proofs.laws.each_key_is_a_path.Goals as goal

pub returns : goal.returns
returns c = keys.each_key_is_a_path c.keys_stay_paths.ensures
