use Rattle.std.proofs.Common.{refl}
use Rattle.std.proofs.lemmas.Result.{err_from_is_err_and, on_ok_weaker, IfErr-weaker}
use Rattle.cfdp_run_script.proofs.Steps.{file_wrong, file_not_put, file_put, file_unread}
use Rattle.cfdp_run_script.proofs.script.RunScript.put_file.Goals as goal

pub returns-in_err-check_path-clause-err : goal.returns-in_err-check_path-clause-err
returns-in_err-check_path-clause-err g c =
    let p = err_from_is_err_and c.from_residual-in_err-check_path.result c.from_residual-in_err-check_path.ensures.1 in
    rw (p.1, p.2) (file_wrong (g.F.Files.known c.args.files.now) _ _ _ _ _ c.in_ok-in_head.ensures.ok c.in_err-check_path.ensures.err)

pub returns-in_err-octets-clause-err : goal.returns-in_err-octets-clause-err
returns-in_err-octets-clause-err g c =
    let p = err_from_is_err_and c.from_residual-in_err-octets.result c.from_residual-in_err-octets.ensures.1 in
    rw (p.1, p.2)
    (file_unread (g.F.Files.known c.args.files.now) _ _ _ _ _ c.in_ok-in_head.ensures.ok c.in_ok-check_path.ensures.ok c.in_err-octets.ensures.err)

pub returns-clause-ok : goal.returns-clause-ok
returns-clause-ok g c =
    on_ok_weaker c.put_file.result
    (file_put (g.F.Files.known c.args.files.now) _ _ _ _ _ _ _ _ c.in_ok-in_head.ensures.ok refl c.in_ok-check_path.ensures.ok c.in_ok-octets.ensures.ok
    c.deref.ensures.value)
    c.put_file.ensures.ok

pub returns-clause-err : goal.returns-clause-err
returns-clause-err g c =
    IfErr-weaker c.put_file.result _ _
    (λ why. file_not_put (g.F.Files.known c.args.files.now) _ _ _ _ _ _ why c.in_ok-in_head.ensures.ok c.in_ok-check_path.ensures.ok c.in_ok-octets.ensures.ok
    c.deref.ensures.value)
    c.put_file.ensures.err
