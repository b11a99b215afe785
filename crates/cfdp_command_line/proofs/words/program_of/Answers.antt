use Rattle.std.proofs.Common.{ap}
use Rattle.clap.specs.Words.{App}
use Rattle.clap.specs.Simple.{app_of_fields}
use Rattle.cfdp_command_line.proofs.Program.{program_is}
use Rattle.cfdp_command_line.proofs.words.program_of.Goals as goal

pub returns : goal.returns
returns c =
    program_is _ _ _ _ _ _ _ _ c.new.ensures.app (ap app_of_fields c.subcommand_required.ensures)
    (ap (λ (a : App). a.top) c.new-plain.ensures.app) c.in_ok-replay_command.ensures.shape c.in_ok-links_command.ensures.shape
    (c.in_ok-subcommand.ensures.shape c.new-plain.ensures.local)
    (c.in_ok-subcommand-2.ensures.shape c.in_ok-replay_command.ensures.local)
    (c.in_ok-program.ensures.shape c.in_ok-links_command.ensures.local)
