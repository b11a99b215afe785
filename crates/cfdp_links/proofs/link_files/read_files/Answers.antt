use Rattle.std.proofs.Common.{rules, ◌≡◌, ◌<◌, length}
use Rattle.std.proofs.lemmas.Result.{err_from_is_err_and}
use Rattle.cfdp_links.proofs.Preparing.{bad_following}
use Rattle.cfdp_links.proofs.link_files.read_files.Goals as goal

pub returns-in_err-read_next-clause-bad : goal.returns-in_err-read_next-clause-bad
returns-in_err-read_next-clause-bad c =
    let p = err_from_is_err_and c.from_residual.result c.from_residual.ensures.1 in
    let within : c.loop-index.index < length c.args.scripts.now = search rules in
    let is : c.deref.result.now ≡ c.index-scripts-index.result.items = search rules in
    rw (p.1, p.2)
    (bad_following (λ script. script.items) _ _ _ _ _ _ _ within c.index-scripts-index.is is c.loop-index.invariant.reads
    c.in_err-read_next.ensures.bad)
