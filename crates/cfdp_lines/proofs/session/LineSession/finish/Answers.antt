use Rattle.std.proofs.Common.{◌≡◌, ◌<◌, ◌++◌, Err, List, length, rules, ap, ◌∙◌}
use Rattle.std.proofs.lemmas.Result.{on_ok_weaker}
use Rattle.cfdp_lines.proofs.Moving.{Finishes-last, FinishesBad-last, FinishesLost-last}
use Rattle.std.proofs.KnownBytes.{Keeps-refl}
use Rattle.cfdp_lines.proofs.session.LineSession.finish.Goals as goal

pub returns-in-Ok-clause-ok : goal.returns-in-Ok-clause-ok
returns-in-Ok-clause-ok g c =
    let few : 0 < length c.args.self.now.line = search rules in
    let ran = rw c.octets-line.ensures.octets at c.in-Ok.ensures.ok in
    let all : c.answer_line.new.text.items ≡ ran.text = ran.appended ∙ ap (λ (s : List _). s ++ ran.text) c.requires in
    on_ok_weaker c.flush.result
    (λ a. Finishes-last _ _ _ _ _ _ ran.text _ _ c.octets-line.ensures.whole.one_line few ran.answered (rw all at a))
    c.flush.ensures.ok

pub returns-in-Ok-clause-write : goal.returns-in-Ok-clause-write
returns-in-Ok-clause-write g c = λ e.
    let few : 0 < length c.args.self.now.line = search rules in
    let ran = rw c.octets-line.ensures.octets at c.in-Ok.ensures.ok in
    let all : c.answer_line.new.text.items ≡ ran.text = ran.appended ∙ ap (λ (s : List _). s ++ ran.text) c.requires in
    FinishesLost-last _ _ _ _ _ _ ran.text _ _ c.octets-line.ensures.whole.one_line few ran.answered (rw all at (rw e at c.flush.ensures.lost))

pub returns-in-Err-clause-bad : goal.returns-in-Err-clause-bad
returns-in-Err-clause-bad g c = λ n e.
    let few : 0 < length c.args.self.now.line = search rules in
    let bad = (c.fault.ensures.bad n).0 cc in
    let number : n ≡ c.args.self.now.number = bad.0 in
    let none = rw c.octets-line.ensures.octets at (c.answer_line.ensures.bad.0 (c.in-Err.is ∙ ap Err bad.1)) in
    rw number (FinishesBad-last _ _ _ _ _ _ _ c.octets-line.ensures.whole.one_line few none (Keeps-refl _))
