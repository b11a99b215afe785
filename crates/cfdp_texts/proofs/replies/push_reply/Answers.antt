use Rattle.std.proofs.Common.{rules}
use Rattle.cfdp_texts.proofs.replies.push_reply.Goals as goal

pub returns-in-Waiting : goal.returns-in-Waiting
returns-in-Waiting c = search rules
