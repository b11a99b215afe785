use Rattle.std.proofs.Common.{refl, ◌∙◌}
use Rattle.std.proofs.lemmas.Result.{err_from_is_err_and, on_ok_weaker, IfErr-weaker}
use Rattle.cfdp_run_script.proofs.Steps.{head_step, head_stop, put_wrong, put_not_wrong}
use Rattle.cfdp_run_script.proofs.script.RunScript.put_directory.Goals as goal

pub returns-in_err-check_path-clause-err : goal.returns-in_err-check_path-clause-err
returns-in_err-check_path-clause-err c =
    let p = err_from_is_err_and c.from_residual-in_err-check_path.result c.from_residual-in_err-check_path.ensures.1 in
    rw (p.1, p.2) (λ known. head_stop _ _ _ _ _ c.in_ok-in_head.ensures.ok (put_wrong _ _ _ _ (c.in_err-check_path.ensures.err known)))

pub returns-clause-ok : goal.returns-clause-ok
returns-clause-ok c =
    on_ok_weaker c.put_directory.result
    (λ e. head_step _ _ _ _ _ _ c.in_ok-in_head.ensures.ok refl (put_not_wrong _ _ _ c.in_ok-check_path.ensures.ok ∙ e))
    c.put_directory.ensures.ok

pub returns-clause-err : goal.returns-clause-err
returns-clause-err c =
    IfErr-weaker c.put_directory.result _ _
    (λ why e. λ known. head_stop _ _ _ _ _ c.in_ok-in_head.ensures.ok (put_not_wrong _ _ _ c.in_ok-check_path.ensures.ok ∙ e known))
    c.put_directory.ensures.err
