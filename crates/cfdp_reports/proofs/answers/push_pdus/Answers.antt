use Rattle.std.proofs.Common.{arith, ◌≡◌, ◌<◌, ◌≤◌, ◌++◌, length, refl, sym, ap, ◌∙◌, ℕ, List, [], Some, slice_get, get_or}
use Rattle.std.proofs.lemmas.Bool.{false≢true}
use Rattle.std.proofs.lemmas.Option.{slice_get-get_or}
use Rattle.cfdp_receiver.specs.Sent.{pdus_of}
use Rattle.cfdp_reports.specs.Reports.{send_line}
use Rattle.cfdp_reports.proofs.Sending.{none_left, sent_all, sent_next}
use Rattle.cfdp_reports.proofs.answers.push_pdus.Goals as goal

pub loop-number-init : goal.loop-number-init
loop-number-init c = (refl, λ old. refl)

pub returns-in-Err-clause-enough : goal.returns-in-Err-clause-enough
returns-in-Err-clause-enough c = λ last enough.
    let pdus = pdus_of c.args.receiver.now c.args.answer.now in
    let n = c.loop-number.number in
    let within : n < length pdus = omega (arith, c.loop-number-test.true, c.pdu_count-number-end.ensures.value c.args.receiver.now) in
    let there : slice_get pdus n ≡ Some (get_or pdus n []) = slice_get-get_or pdus n [] within in
    let none = c.in-Err.ensures.enough last (omega (arith, enough, c.loop-number.auto.room)) in
    absurd (rw (last, there, none) at c.in-Err.ensures.err)

pub loop-number-preserved : goal.loop-number-preserved
loop-number-preserved c =
    let R = c.args.receiver.now in
    let ok = c.in-Ok.ensures.ok in (
      sent_next R.state.mib (pdus_of R c.args.answer.now) c.loop-number.number ok.0 _ c.loop-number.text.items c.push_sent.new.text.items ok.1
          c.loop-number.invariant.0
          (c.in_ok-push_sent-in-Ok.ensures ∙ ap (λ (t : List ℕ). c.loop-number.text.items ++ send_line t) (sym ok.2)),
      λ old. absurd (false≢true (sym old ∙ c.in-Ok.ensures.last)),
    )

pub returns-clause-sent : goal.returns-clause-sent
returns-clause-sent c =
    let R = c.args.receiver.now in
    let end : length (pdus_of R c.args.answer.now) ≤ c.loop-number.number =
    omega (arith, c.loop-number-test.false, c.pdu_count-number-end.ensures.value R) in
    sent_all R.state.mib (pdus_of R c.args.answer.now) c.loop-number.number _ c.loop-number.text.items end c.loop-number.invariant.0

pub returns-clause-refused : goal.returns-clause-refused
returns-clause-refused c = λ old.
    let R = c.args.receiver.now in
    let pdus = pdus_of R c.args.answer.now in
    let none : length pdus ≤ 0 = omega (arith, c.loop-number-test.false, c.pdu_count-number-end.ensures.value R, c.loop-number.invariant.1 old) in
    none_left pdus none
