use Rattle.std.proofs.Common.{refl}
use Rattle.std.proofs.lemmas.Result.{err_from_is_err_and}
use Rattle.cfdp_commands.specs.Commands.{command_in}
use Rattle.cfdp_links.specs.Links.{link_said}
use Rattle.cfdp_commands.specs.Stages.{setup_of}
use Rattle.cfdp_links.proofs.Preparing.{pdu_said}
use Rattle.cfdp_commands.proofs.Verdicts.{unread}
use Rattle.cfdp_links.proofs.link_lines.read_words.Goals as goal

pub returns-in_err-command-clause-bad : goal.returns-in_err-command-clause-bad
returns-in_err-command-clause-bad c =
    let p = err_from_is_err_and c.from_residual.result c.from_residual.ensures.1 in
    let stage = setup_of c.args.setup.now in
    rw (p.1, p.2)
    (unread (link_said stage) refl (pdu_said stage) (command_in c.args.line.now) c.in_err-command.field-0.0 c.in_err-command.ensures.bad
    c.in_err-command.ensures.memory)
