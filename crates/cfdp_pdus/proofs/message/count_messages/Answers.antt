use Rattle.std.proofs.Common.{inl, arith}
use Rattle.cfdp_pdus.proofs.MessageSteps.{few_messages}
use Rattle.cfdp_pdus.proofs.message.count_messages.Goals as goal

pub count-requires-clause-fits : goal.count-requires-clause-fits
count-requires-clause-fits c = inl (omega (arith, few_messages c.args.options.now))
