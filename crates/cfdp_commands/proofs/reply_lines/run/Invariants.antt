use Rattle.std.proofs.Common.{◌-◌}
use Rattle.cfdp_transactions.specs.MostSettled.{most_settled}
use Rattle.cfdp_commands.proofs.Steps.{Steps}
use Rattle.cfdp_commands.proofs.reply_lines.run.Given as goal

abbrev pub invariant-steps : goal.invariant-steps
invariant-steps l = Steps (most_settled - l.counter) l.initial.entity l.entity most_settled l.initial.text.items l.text.items
