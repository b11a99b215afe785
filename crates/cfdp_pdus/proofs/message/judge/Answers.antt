use Rattle.std.proofs.lemmas.Result.{err_from_is_err_and}
use Rattle.cfdp_pdus.proofs.MessageSteps.{judged_ok, judged_err}
use Rattle.cfdp_pdus.proofs.message.judge.Goals as goal

pub returns-in_err-count_requests : goal.returns-in_err-count_requests
returns-in_err-count_requests c =
    let p = err_from_is_err_and c.from_residual.result c.from_residual.ensures.1 in
    rw (p.1, p.2) (judged_err c.args.options.now c.in_err-count_requests.field-0.0 c.in_err-count_requests.ensures)

pub returns : goal.returns
returns c = judged_ok c.args.options.now _ c.in_ok-count_requests.ensures
