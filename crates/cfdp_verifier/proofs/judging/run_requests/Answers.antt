use Rattle.std.proofs.Common.{◌≡◌, ◌∙◌, refl, true, false, map}
use Rattle.cfdp_status.specs.Codes.{is_successful}
use Rattle.cfdp_actions.specs.Actions.{Perform, Performed}
use Rattle.cfdp_states.specs.Views.{IsViewOf}
use Rattle.cfdp_verifier.proofs.Running.{answer_at, view_counts, goes_on, fails_at, ends}
use Rattle.cfdp_verifier.proofs.judging.run_requests.Goals as goal

pub returns-then-not-is_successful : goal.returns-then-not-is_successful
returns-then-not-is_successful c =
    let failed : is_successful c.in_ok-status.status ≡ false = cc in
    λ F start high taken seen within. (
      c.loop-number.number,
      c.in_ok-status.status,
      fails_at c.args.view.now.prefixes F (map Perform c.args.requests.now) start high taken (IsViewOf c.loop-number.view)
          (IsViewOf c.apply.new.self) c.args.requests.now c.loop-number.number
          c.index-requests-number.result c.in_ok-status.status c.loop-number-test.true c.index-requests-number.is
          (answer_at c.args.view.now.prefixes c.loop-number.view c.apply.new.self (Perform c.index-requests-number.result)
          (Performed c.in_ok-status.status) c.loop-number.invariant.0 c.in_ok-status.ensures.stated) failed
          (c.loop-number.invariant.1 F start high taken seen within),
      refl,
    )

pub loop-number-preserved : goal.loop-number-preserved
loop-number-preserved c =
    let done : is_successful c.in_ok-status.status ≡ true = cc in (
      c.in_ok-status.ensures.prefixes ∙ c.loop-number.invariant.0,
      λ F start high taken seen within.
          goes_on c.args.view.now.prefixes F (map Perform c.args.requests.now) start high taken (IsViewOf c.loop-number.view)
          (IsViewOf c.apply.new.self) c.args.requests.now c.loop-number.number
          c.index-requests-number.result c.in_ok-status.status c.loop-number-test.true c.index-requests-number.is
          (answer_at c.args.view.now.prefixes c.loop-number.view c.apply.new.self (Perform c.index-requests-number.result)
          (Performed c.in_ok-status.status) c.loop-number.invariant.0 c.in_ok-status.ensures.stated) done
          (c.loop-number.invariant.1 F start high taken seen within),
    )

pub returns : goal.returns
returns c = λ F start high taken seen within.
    ends c.args.view.now.prefixes F (map Perform c.args.requests.now) start high taken {X = Unit {0}} tt (IsViewOf c.loop-number.view) c.loop-number.view
    (view_counts c.loop-number.view) c.args.requests.now c.loop-number.number
    c.loop-number-test.false (c.loop-number.invariant.1 F start high taken seen within)
