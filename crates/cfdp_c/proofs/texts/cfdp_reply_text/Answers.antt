use Rattle.std.proofs.Common.{rules}
use Rattle.cfdp_c.proofs.LineLengths.{shown_len}
use Rattle.cfdp_c.proofs.texts.cfdp_reply_text.Goals as goal

pub returns-in-Ok-Some-clause-text : goal.returns-in-Ok-Some-clause-text
returns-in-Ok-Some-clause-text c = search rules

pub returns-in-Err-clause-most : goal.returns-in-Err-clause-most
returns-in-Err-clause-most c = λ widths. shown_len c.args.reply.now widths c.args.octets.now

pub returns-in-Ok-Some-clause-most : goal.returns-in-Ok-Some-clause-most
returns-in-Ok-Some-clause-most c = λ widths. shown_len c.args.reply.now widths c.args.octets.now
