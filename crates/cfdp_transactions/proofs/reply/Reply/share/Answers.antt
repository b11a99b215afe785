use Rattle.std.proofs.Common.{rules}
use Rattle.cfdp_transactions.proofs.reply.Reply.share.Goals as goal

pub returns-clause-same : goal.returns-clause-same
returns-clause-same c = search rules
