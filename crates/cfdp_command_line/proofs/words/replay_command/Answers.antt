use Rattle.std.proofs.Common.{◌∙◌, ◌||◌, ap₂}
use Rattle.cfdp_command_line.proofs.Program.{replay_is}
use Rattle.cfdp_command_line.proofs.words.replay_command.Goals as goal

pub returns-clause-shape : goal.returns-clause-shape
returns-clause-shape c = replay_is _ _ _ c.new.ensures.app c.new-file.ensures.rule (c.in_ok-command.ensures.shape c.new-file.ensures.optional.1)

pub returns-clause-local : goal.returns-clause-local
returns-clause-local c = c.in_ok-command.ensures.globals ∙ ap₂ (λ a b. a || b) c.new.ensures.local c.new-file.ensures.optional.1
