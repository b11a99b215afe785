use Rattle.cfdp_transactions.proofs.Promises.Readable.{read_is_readable}
use Rattle.cfdp_transactions.proofs.laws.what_was_read_is_readable.Goals as goal

pub returns : goal.returns
returns c = read_is_readable
