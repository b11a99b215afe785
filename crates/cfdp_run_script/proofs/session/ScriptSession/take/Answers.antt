use Rattle.std.proofs.Common.{◌≡◌, ◌∙◌, ◌++◌, Err, ap, length, take, arith, rules}
use Rattle.std.proofs.lemmas.List.{take_all}
use Rattle.std.proofs.lemmas.Result.{err_from_is_err_and}
use Rattle.cfdp_run_script.proofs.KnownFiles.{adds, gathers, goes_on, long, long_for, stops, stops_for}
use Rattle.cfdp_run_script.proofs.session.ScriptSession.take.Goals as goal

pub returns-in-Err-clause-stops : goal.returns-in-Err-clause-stops
returns-in-Err-clause-stops g c = λ not_memory.
    long (g.F.Files.known c.args.files.now) _ _ _ _ (c.take.ensures.bad (c.in-Err.is ∙ ap Err (c.stop_at.ensures.only not_memory)))

pub returns-in-Err-clause-why : goal.returns-in-Err-clause-why
returns-in-Err-clause-why g c =
    long_for (g.F.Files.known c.args.files.now) _ _ _ _ _
    (λ not_memory. c.take.ensures.bad (c.in-Err.is ∙ ap Err (c.stop_at.ensures.only not_memory)))
    (λ not_memory. c.stop_at.ensures.bad (c.stop_at.ensures.only not_memory))

pub returns-in_err-line-clause-stops : goal.returns-in_err-line-clause-stops
returns-in_err-line-clause-stops g c =
    let p = err_from_is_err_and c.from_residual.result c.from_residual.ensures.1 in
    let ends = rw c.in-Ok-Some.field-0-is at c.in-Ok-Some.ensures.ends in
    rw (p.1, p.2)
    (λ not_memory. stops (g.F.Files.known c.args.files.now) _ _ _ _ _ _ c.in-Ok-Some.end _ ends c.ended-line.ensures c.in_err-line.ensures.err not_memory)

pub returns-in_err-line-clause-why : goal.returns-in_err-line-clause-why
returns-in_err-line-clause-why g c =
    let p = err_from_is_err_and c.from_residual.result c.from_residual.ensures.1 in
    let ends = rw c.in-Ok-Some.field-0-is at c.in-Ok-Some.ensures.ends in
    rw (p.1, p.2)
    (stops_for (g.F.Files.known c.args.files.now) _ _ _ _ _ _ c.in-Ok-Some.end _ ends c.ended-line.ensures c.in_err-line.ensures.err)

pub returns-clause-ok : goal.returns-clause-ok
returns-clause-ok g c =
    let ends = rw c.in-Ok-Some.field-0-is at c.in-Ok-Some.ensures.ends in
    rw c.clear.ensures.none
    (adds (g.F.Files.known c.args.files.now) _ _ _ _ _ _ _ _ _ c.in-Ok-Some.end ends c.ended-line.ensures c.in_ok-line.ensures.ok)

pub returns-clause-goes_on : goal.returns-clause-goes_on
returns-clause-goes_on g c =
    let ends = rw c.in-Ok-Some.field-0-is at c.in-Ok-Some.ensures.ends in
    rw c.clear.ensures.none
    (goes_on (g.F.Files.known c.args.files.now) _ _ _ _ _ _ _ _ _ c.in-Ok-Some.end ends c.ended-line.ensures c.in_ok-line.ensures.ok)

pub returns-in-Ok-None-clause-ok : goal.returns-in-Ok-None-clause-ok
returns-in-Ok-None-clause-ok g c =
    let line : c.take.new.self ≡ c.args.self.now.line ++ c.args.octets.now = search rules in
    let all : take (length c.args.octets.now) c.args.octets.now ≡ c.args.octets.now = take_all (length c.args.octets.now) c.args.octets.now (omega arith) in
    rw (line, all) (gathers (g.F.Files.known c.args.files.now) _ _ _ _ _)
