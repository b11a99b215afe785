use Rattle.std.proofs.Common.{◌<◌, length, rules}
use Rattle.std.proofs.lemmas.Result.{on_ok_weaker, IfErr-weaker}
use Rattle.cfdp_run_script.proofs.KnownFiles.{ends, ends_stopped, ends_well, ends_why}
use Rattle.cfdp_run_script.proofs.session.ScriptSession.finish.Goals as goal

pub returns-clause-ok : goal.returns-clause-ok
returns-clause-ok g c =
    let few : 0 < length c.args.self.now.line = search rules in
    on_ok_weaker c.line.result
    (ends (g.F.Files.known c.args.files.now) _ _ _ _ _ _ _ c.octets-line.ensures.whole.one_line few c.octets-line.ensures.octets)
    c.line.ensures.ok

pub returns-clause-well : goal.returns-clause-well
returns-clause-well g c =
    let few : 0 < length c.args.self.now.line = search rules in
    on_ok_weaker c.line.result
    (ends_well (g.F.Files.known c.args.files.now) c.args.self.now.number _ _ _ _ _ _ c.octets-line.ensures.whole.one_line few c.octets-line.ensures.octets)
    c.line.ensures.ok

pub returns-clause-stops : goal.returns-clause-stops
returns-clause-stops g c =
    let few : 0 < length c.args.self.now.line = search rules in
    IfErr-weaker c.line.result _ _
    (λ why. ends_stopped (g.F.Files.known c.args.files.now) _ _ _ _ why c.octets-line.ensures.whole.one_line few c.octets-line.ensures.octets)
    c.line.ensures.err

pub returns-clause-why : goal.returns-clause-why
returns-clause-why g c =
    let few : 0 < length c.args.self.now.line = search rules in
    IfErr-weaker c.line.result _ _
    (λ why. ends_why (g.F.Files.known c.args.files.now) c.args.self.now.number _ _ _ why c.octets-line.ensures.whole.one_line few c.octets-line.ensures.octets)
    c.line.ensures.err
