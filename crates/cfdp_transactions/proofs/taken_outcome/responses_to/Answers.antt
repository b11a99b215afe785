use Rattle.std.proofs.Common.{◌≡◌, ◌+◌, ◌-◌, ◌++◌, length, refl, ap, subst, ◌∙◌, arith}
use Rattle.std.specs.Prelude.{vec_len}
use Rattle.cfdp_status.specs.declared.status.Status.TheVariants.{Successful, NotPerformed}
use Rattle.cfdp_transactions.specs.Outcome.{answered, responses_of}
use Rattle.cfdp_transactions.specs.code.TakenOutcome.{statuses_of}
use Rattle.cfdp_transactions.proofs.KeptTable.EntryTakenOut.{next_answer, status_at, status_of_number}
use Rattle.cfdp_transactions.proofs.taken_outcome.responses_to.Goals as goal

pub loop-request-preserved : goal.loop-request-preserved
loop-request-preserved c =
    let r = c.in-Some.request in
    let rest = c.next.new.self.rest.items in
    let done = c.loop-request.responses.items in
    let n = vec_len c.loop-request.responses in
    let left = c.args.performed - n in
    let status : c.status_of-status.result ≡ status_at left r =
    rw c.len.ensures at (status_of_number c.args.performed c.len.result r c.status_of-status.result
    (λ less. c.status_of-status.ensures.performed less ∙ ap (λ a. Successful a) c.action.ensures.value)
    (λ past. c.status_of-status.ensures.left past ∙ ap (λ a. NotPerformed a) c.action.ensures.value)) in
    let response : c.into_response.result ≡ answered r (status_at left r) = rw (c.into_response.ensures, status) refl in
    let whole = subst (λ rs. done ++ responses_of rs (statuses_of left rs)
    ≡ responses_of c.args.requests.items (statuses_of c.args.performed c.args.requests.items))
    c.in-Some.ensures.steps.0 c.loop-request.invariant.all in
    let next = next_answer r rest c.args.performed n done c.push_reserved.new.self.items
    (responses_of c.args.requests.items (statuses_of c.args.performed c.args.requests.items))
    c.into_response.result response c.push_reserved.ensures.items whole in
    let fewer : length c.loop-request.request-iterator.rest.items ≡ length rest + 1 = ap length c.in-Some.ensures.steps.0 ∙ omega arith in
    record {
      all = rw c.push_reserved.ensures.len next;
      room = omega (arith, c.loop-request.invariant.room, c.push_reserved.ensures.len, c.push_reserved.ensures.capacity, fewer);
    }
