use Rattle.std.proofs.Common.{◌≡◌, ◌∙◌, refl, true, false, ◌+◌, map, drop}
use Rattle.cfdp_status.specs.Codes.{is_successful}
use Rattle.cfdp_actions.specs.Actions.{Perform}
use Rattle.cfdp_states.specs.Sparse.{IsSparseViewOf, TellsSparse}
use Rattle.cfdp_verifier.proofs.Running.{some_of, answer_at_sparse, sparse_counts, goes_as, goes_on, fails_at, ends, AfterSparse}
use Rattle.cfdp_verifier.proofs.judging.run_requests_sparse.Goals as goal

pub returns-then-not-is_successful : goal.returns-then-not-is_successful
returns-then-not-is_successful c =
    let failed : is_successful c.in-Some.status ≡ false = cc in
    let v = c.loop-number.view in
    let w = c.apply.new.self in
    let requests = c.args.requests.now in
    let n = c.loop-number.number in
    let request = c.index-requests-number.result in
    let stated : TellsSparse v.view w.view request c.in-Some.status =
    some_of (λ status. TellsSparse v.view w.view request status) c.in_ok-status.field-0 c.in-Some.status c.in-Some.is c.in_ok-status.ensures.stated in
    λ F start high taken seen within. (
      n,
      c.in-Some.status,
      fails_at c.args.view.now.view.prefixes F (map Perform requests) start high taken (IsSparseViewOf v.view (map Perform (drop n requests)))
          (AfterSparse w.view (map Perform (drop (n + 1) requests)) c.in-Some.status) requests n request c.in-Some.status c.loop-number-test.true
          c.index-requests-number.is
          (answer_at_sparse c.args.view.now.view.prefixes v.view w.view requests n request c.in-Some.status c.loop-number-test.true c.index-requests-number.is
          c.loop-number.invariant.0 stated) failed
          (c.loop-number.invariant.1 F start high taken seen within),
      refl,
    )

pub loop-number-preserved : goal.loop-number-preserved
loop-number-preserved c =
    let done : is_successful c.in-Some.status ≡ true = cc in
    let v = c.loop-number.view in
    let w = c.apply.new.self in
    let requests = c.args.requests.now in
    let n = c.loop-number.number in
    let request = c.index-requests-number.result in
    let stated : TellsSparse v.view w.view request c.in-Some.status =
    some_of (λ status. TellsSparse v.view w.view request status) c.in_ok-status.field-0 c.in-Some.status c.in-Some.is c.in_ok-status.ensures.stated in (
      c.in_ok-status.ensures.prefixes ∙ c.loop-number.invariant.0,
      λ F start high taken seen within.
          goes_as c.args.view.now.view.prefixes F (map Perform requests) start high taken
          (AfterSparse w.view (map Perform (drop (n + 1) requests)) c.in-Some.status)
          (IsSparseViewOf w.view (map Perform (drop (n + 1) requests))) (n + 1) (map Perform (drop (n + 1) requests)) (λ G start most spent next. next done)
          (goes_on c.args.view.now.view.prefixes F (map Perform requests) start high taken (IsSparseViewOf v.view (map Perform (drop n requests)))
          (AfterSparse w.view (map Perform (drop (n + 1) requests)) c.in-Some.status) requests n request c.in-Some.status c.loop-number-test.true
          c.index-requests-number.is
          (answer_at_sparse c.args.view.now.view.prefixes v.view w.view requests n request c.in-Some.status c.loop-number-test.true c.index-requests-number.is
          c.loop-number.invariant.0 stated) done
          (c.loop-number.invariant.1 F start high taken seen within)),
    )

pub returns : goal.returns
returns c =
    let v = c.loop-number.view in
    let rest = map Perform (drop c.loop-number.number c.args.requests.now) in
    λ F start high taken seen within.
    ends c.args.view.now.view.prefixes F (map Perform c.args.requests.now) start high taken true (IsSparseViewOf v.view rest) v.view
    (sparse_counts v.view rest) c.args.requests.now c.loop-number.number
    c.loop-number-test.false (c.loop-number.invariant.1 F start high taken seen within)
