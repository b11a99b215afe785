use Rattle.std.proofs.Common.{ap, sym, ◌∙◌, arith, le-ltb, lt-ltb, length, get_or}
use Rattle.cfdp_tlv.specs.Grammar.{request_octets}
use Rattle.cfdp_uploads.proofs.Found.{found_at, found_nowhere, each_by_recursion}
use Rattle.cfdp_uploads.specs.Judging.{is_long, none_found, requests_judged}
use Rattle.cfdp_uploads.specs.declared.fault.UploadFault.TheVariants as faults
use Rattle.cfdp_uploads.proofs.judging.judge_requests.Goals as goal

pub returns-then-value_len-gt-MAX_ANSWERABLE_LEN-clause-value : goal.returns-then-value_len-gt-MAX_ANSWERABLE_LEN-clause-value
unfolding requests_judged
returns-then-value_len-gt-MAX_ANSWERABLE_LEN-clause-value c =
    let request = c.index-requests-number.result in
    sym (ap (λ found. none_found found (λ number. faults.Request number)) (found_at is_long c.args.requests.now c.loop-number.number request
    c.loop-number-test.true
    (λ k h. le-ltb 254 (length (request_octets (get_or c.args.requests.now k request))) (omega (arith, (c.loop-number.invariant k request h).short)))
    (sym (ap is_long c.index-requests-number.is)
    ∙ lt-ltb 254 (length (request_octets request)) (omega (arith, c.value_len.ensures, c.if-value_len-gt-MAX_ANSWERABLE_LEN.true)))))

pub returns-clause-value : goal.returns-clause-value
unfolding requests_judged
returns-clause-value c =
    sym (ap (λ found. none_found found (λ number. faults.Request number)) (found_nowhere is_long c.args.requests.now
    (λ k d h. le-ltb 254 (length (request_octets (get_or c.args.requests.now k d))) (omega (arith, (c.loop-number.invariant k d (omega arith)).short)))))

pub returns-clause-answerable : goal.returns-clause-answerable
returns-clause-answerable c = λ _. each_by_recursion _ c.args.requests.now (λ k d h. c.loop-number.invariant k d (omega arith))
