use Rattle.std.proofs.Common.{◌∙◌}
use Rattle.std.proofs.lemmas.Result.{IfOk-weaker}
use Rattle.cfdp_command_line.proofs.Pairing.{paired_length, paired_through}
use Rattle.cfdp_command_line.proofs.files.read_all.Goals as goal

pub returns-clause-read : goal.returns-clause-read
returns-clause-read g c =
    IfOk-weaker c.read_each.result _ _
    (λ scripts read. paired_through _ _ _ (λ path file script opened whole. record { file = file; opened = opened; whole = whole })
    c.args.paths.now c.in_ok-opened.opened.items scripts.items c.in_ok-opened.ensures.opened read)
    c.read_each.ensures.read

pub returns-clause-each : goal.returns-clause-each
returns-clause-each g c =
    let opened = c.in_ok-opened.opened.items in
    IfOk-weaker c.read_each.result _ _
    (λ scripts read. paired_length _ opened scripts.items read ∙ paired_length _ c.args.paths.now opened c.in_ok-opened.ensures.opened)
    c.read_each.ensures.read
