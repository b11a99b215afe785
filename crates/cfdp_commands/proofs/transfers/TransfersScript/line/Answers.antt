use Rattle.std.proofs.Common.{refl}
use Rattle.cfdp_commands.specs.Commands.{command_in}
use Rattle.cfdp_commands.specs.Replay.{line_answered}
use Rattle.cfdp_commands.specs.Scripts.{transfers_of}
use Rattle.cfdp_commands.proofs.Verdicts.{pdu_answered, unread}
use Rattle.cfdp_commands.proofs.transfers.TransfersScript.line.Goals as goal

pub returns-in-Err-clause-bad : goal.returns-in-Err-clause-bad
returns-in-Err-clause-bad c =
    let stage = transfers_of c.args.self.now in
    unread (line_answered stage) refl (pdu_answered stage) (command_in c.args.line.now) c.in-Err.fault c.in-Err.ensures.bad c.in-Err.ensures.memory
