use Rattle.std.proofs.lemmas.Result.{on_ok_weaker}
use Rattle.cfdp_run_script.proofs.Steps.{always, quiet}
use Rattle.cfdp_run_script.proofs.script.RunScript.obey.Goals as goal

pub returns-in-Settings-clause-ok : goal.returns-in-Settings-clause-ok
returns-in-Settings-clause-ok g c =
    rw c.in-Settings.is
    (on_ok_weaker c.set.result (always (g.F.Files.known c.args.files.now) _ _ c.args.text.now.items) c.set.ensures.ok)

pub returns-in-Configure-clause-ok : goal.returns-in-Configure-clause-ok
returns-in-Configure-clause-ok g c =
    rw c.in-Configure.is
    (on_ok_weaker c.configure.result (always (g.F.Files.known c.args.files.now) _ _ c.args.text.now.items) c.configure.ensures.ok)

pub returns-in-Protect-clause-ok : goal.returns-in-Protect-clause-ok
returns-in-Protect-clause-ok g c =
    rw c.in-Protect.is
    (on_ok_weaker c.protect.result (always (g.F.Files.known c.args.files.now) _ _ c.args.text.now.items) c.protect.ensures.ok)

pub returns-in-PutDirectory-clause-ok : goal.returns-in-PutDirectory-clause-ok
returns-in-PutDirectory-clause-ok g c =
    rw c.in-PutDirectory.is
    (on_ok_weaker c.put_directory.result (always (g.F.Files.known c.args.files.now) _ _ c.args.text.now.items) c.put_directory.ensures.ok)

pub returns-in-Expect-clause-ok : goal.returns-in-Expect-clause-ok
returns-in-Expect-clause-ok g c =
    rw c.in-Expect.is
    (on_ok_weaker c.expect.result (always (g.F.Files.known c.args.files.now) _ _ c.args.text.now.items) c.expect.ensures.ok)

pub returns-in-PutFile-clause-ok : goal.returns-in-PutFile-clause-ok
returns-in-PutFile-clause-ok g c =
    rw c.in-PutFile.is
    (on_ok_weaker c.put_file.result (quiet (g.F.Files.known c.args.files.now) _ _ c.args.text.now.items) c.put_file.ensures.ok)
