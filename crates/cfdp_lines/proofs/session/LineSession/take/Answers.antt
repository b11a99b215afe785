use Rattle.std.proofs.Common.{◌≡◌, ◌∙◌, ◌++◌, Err, take}
use Rattle.std.proofs.lemmas.Result.{err_from_is_err_and}
use Rattle.cfdp_lines.specs.declared.faults.LineFault.TheVariants.{Bad, Memory}
use Rattle.cfdp_lines.specs.Lines.{IsOneLine}
use Rattle.cfdp_lines.proofs.Feeding.{Adds-line, Stops-overlong, Stops-line, Stops-good_line}
use Rattle.cfdp_lines.proofs.Moving.{StopsBad-open}
use Rattle.cfdp_lines.proofs.session.LineSession.take.Goals as goal

pub returns-in_err-end-clause-bad : goal.returns-in_err-end-clause-bad
returns-in_err-end-clause-bad g c = λ e.
    let p = err_from_is_err_and c.from_residual.result c.from_residual.ensures.1 in
    let same : c.take.result ≡ Err Bad = cc (p.1, p.2, c.in_err-end.was) in
    let long = c.take.ensures.bad same in
    Stops-overlong _ _ _ _ _ _ long.count long.goes_on.one_line long.one_line long.long

pub returns-in_err-end-clause-refused : goal.returns-in_err-end-clause-refused
returns-in_err-end-clause-refused g c = λ e none stops.
    let p = err_from_is_err_and c.from_residual.result c.from_residual.ensures.1 in
    let same : c.take.result ≡ Err Memory = cc (p.1, p.2, c.in_err-end.was) in
    let fits = c.take.ensures.refused same none in
    StopsBad-open _ _ _ _ _ fits.one_line fits.within (rw none at stops)

pub returns-in_err-answer_line-clause-bad : goal.returns-in_err-answer_line-clause-bad
returns-in_err-answer_line-clause-bad g c = λ e.
    let p = err_from_is_err_and c.from_residual-in_err-answer_line.result c.from_residual-in_err-answer_line.ensures.1 in
    let same : c.answer_line.result ≡ Err Bad = cc (p.1, p.2, c.in_err-answer_line.was) in
    let ends = rw c.in-Some.is at c.in_ok-end.ensures.ends in
    let line : c.ended-line.result.now ≡ c.args.self.now.line ++ take c.in-Some.end c.args.octets.now = c.ended-line.ensures ∙ ends.whole in
    Stops-line _ _ _ _ _ _ c.in-Some.end (rw ends.whole at ends.one_line) ends.within ends.newline (rw line at (c.answer_line.ensures.bad.0 same))

pub returns-in_err-answer_line-clause-refused : goal.returns-in_err-answer_line-clause-refused
returns-in_err-answer_line-clause-refused g c = λ e none stops.
    let p = err_from_is_err_and c.from_residual-in_err-answer_line.result c.from_residual-in_err-answer_line.ensures.1 in
    let same : c.answer_line.result ≡ Err Memory = cc (p.1, p.2, c.in_err-answer_line.was) in
    let ends = rw c.in-Some.is at c.in_ok-end.ensures.ends in
    let line : c.ended-line.result.now ≡ take c.in-Some.end c.args.octets.now = rw none at (c.ended-line.ensures ∙ ends.whole) in
    let one_line : IsOneLine (take c.in-Some.end c.args.octets.now) = rw none at (rw ends.whole at ends.one_line) in
    Stops-good_line _ _ _ _ _ c.in-Some.end one_line ends.within ends.newline
    (λ bad. let was = c.answer_line.ensures.bad.1 (rw line bad) in absurd cc) (rw none at stops)

pub returns-clause-ok : goal.returns-clause-ok
returns-clause-ok g c =
    let ends = rw c.in-Some.is at c.in_ok-end.ensures.ends in
    let line : c.ended-line.result.now ≡ c.args.self.now.line ++ take c.in-Some.end c.args.octets.now = c.ended-line.ensures ∙ ends.whole in
    rw c.clear.ensures.none
    (Adds-line _ _ _ _ _ _ _ _ _ c.in-Some.end (rw ends.whole at ends.one_line) ends.within ends.newline (rw line at c.in_ok-answer_line.ensures.ok))
