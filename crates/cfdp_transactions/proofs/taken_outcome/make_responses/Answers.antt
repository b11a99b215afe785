use Rattle.std.proofs.Common.{◌≡◌, ◌-◌, refl, ap, ◌∙◌}
use Rattle.cfdp_status.specs.declared.status.Status.TheVariants.{Successful, NotPerformed}
use Rattle.cfdp_tlv.specs.Values.{RequestFields}
use Rattle.cfdp_transactions.specs.Outcome.{answered}
use Rattle.cfdp_transactions.proofs.KeptTable.EntryTakenOut.{next_response, status_at, status_of_number}
use Rattle.cfdp_transactions.proofs.taken_outcome.make_responses.Goals as goal

pub loop-index-preserved : goal.loop-index-preserved
loop-index-preserved c =
    let requests = c.args.requests.now in
    let r = c.index-requests-index.result in
    let status : c.status_of-status.result ≡ status_at (c.args.performed - c.loop-index.index) r =
    status_of_number c.args.performed c.loop-index.index r c.status_of-status.result
    (λ less. c.status_of-status.ensures.performed less ∙ ap (λ a. Successful a) c.action.ensures.value)
    (λ past. c.status_of-status.ensures.left past ∙ ap (λ a. NotPerformed a) c.action.ensures.value) in
    let response : c.into_response.result ≡ answered r (status_at (c.args.performed - c.loop-index.index) r) =
    rw (c.into_response.ensures, c.in_ok-copy.ensures, status) refl in
    let whole = c.in_ok-push.ensures.items in
    next_response requests c.args.performed c.loop-index.index r c.loop-index.responses.items c.push.new.self.items _ c.into_response.result
    c.loop-index-test.true
    (response ∙ ap (λ (q : RequestFields). answered q (status_at (c.args.performed - c.loop-index.index) q)) c.index-requests-index.is) whole
    c.loop-index.invariant
