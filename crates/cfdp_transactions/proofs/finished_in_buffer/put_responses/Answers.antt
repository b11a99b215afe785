use Rattle.std.proofs.Common.{◌≡◌, ◌+◌, ◌-◌, ◌∷◌, List, true, length, refl, ap, sym, subst, ◌∙◌, arith}
use Rattle.std.specs.List.{flat_map, list_all}
use Rattle.std.proofs.lemmas.List.{length-append}
use Rattle.std.proofs.lemmas.Bool.{and_parts}
use Rattle.cfdp_status.specs.declared.status.Status.TheVariants.{Successful, NotPerformed}
use Rattle.cfdp_tlv.specs.Values.{ResponseFields}
use Rattle.cfdp_pdus.specs.Canonical.{is_short_response, response_field}
use Rattle.cfdp_pdus.specs.BufferParts.{with_octets_at}
use Rattle.cfdp_transactions.specs.Outcome.{answered, responses_of}
use Rattle.cfdp_transactions.specs.code.TakenOutcome.{statuses_of}
use Rattle.cfdp_transactions.proofs.FinishedPdus.ResponsesPut.{next_is, one_more, responses_from}
use Rattle.cfdp_transactions.proofs.KeptTable.EntryTakenOut.{status_at, status_of_number}
use Rattle.cfdp_transactions.proofs.finished_in_buffer.put_responses.Goals as goal

pub loop-index-preserved : goal.loop-index-preserved
loop-index-preserved c =
    let requests = c.args.requests.now in
    let performed = c.args.performed in
    let index = c.loop-index.index in
    let r = c.index-requests-index.result in
    let all = responses_of requests (statuses_of performed requests) in
    let rest = responses_from requests performed (index + 1) in
    let status : c.status_of-status.result ≡ status_at (performed - index) r =
    status_of_number performed index r c.status_of-status.result
    (λ less. c.status_of-status.ensures.performed less ∙ ap (λ a. Successful a) c.action.ensures.value)
    (λ past. c.status_of-status.ensures.left past ∙ ap (λ a. NotPerformed a) c.action.ensures.value) in
    let x = answered r c.status_of-status.result in
    let left : responses_from requests performed index ≡ x ∷ rest =
    next_is requests performed index r c.loop-index-test.true c.index-requests-index.is ∙ rw (← status) refl in
    let whole = subst (λ (xs : List ResponseFields). with_octets_at c.loop-index.out c.loop-index.end (flat_map response_field xs)
    ≡ with_octets_at c.args.out.now c.args.at (flat_map response_field all))
    left c.loop-index.invariant.written in
    let short : list_all is_short_response (x ∷ rest) ≡ true = sym (ap (list_all is_short_response) left) ∙ c.loop-index.invariant.short in
    let offset : c.loop-index.end + length (flat_map response_field (x ∷ rest)) ≡ c.args.at + length (flat_map response_field all) =
    omega (arith, ap (λ (xs : List ResponseFields). length (flat_map response_field xs)) left, c.loop-index.invariant.offset) in
    record {
      short = (and_parts (is_short_response x) (list_all is_short_response rest) short).1;
      offset = omega (arith, offset, length-append (response_field x) (flat_map response_field rest), c.put_response-end.ensures.end);
      written = one_more c.loop-index.out c.put_response-end.new.out c.args.out.now c.args.at c.loop-index.end c.put_response-end.result x rest all
          (omega (arith, offset, c.requires.room, c.loop-index.auto.out)) whole c.put_response-end.ensures.written c.put_response-end.ensures.end;
    }
