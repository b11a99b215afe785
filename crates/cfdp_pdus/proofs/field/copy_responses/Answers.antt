use Rattle.std.proofs.Common.{Ok, ◌≡◌, ◌++◌, ◌∷◌, [], sym, ap, ◌∙◌, length, length-append, arith}
use Rattle.std.proofs.lemmas.Bool.{ne_eqb}
use Rattle.cfdp_pdus.specs.code.Fields.{field_if_whole}
use Rattle.cfdp_tlv.specs.Reading.{◌>>=◌}
use Rattle.cfdp_pdus.specs.code.Counting.{responses_in_fields}
use Rattle.cfdp_pdus.specs.First.{fields_at, outcome_fields}
use Rattle.cfdp_pdus.proofs.Steps.{first_is_ok}
use Rattle.cfdp_pdus.proofs.CountSteps.{joined, join_none, join_next, rest_is_ok, has_room}
use Rattle.cfdp_pdus.proofs.FieldLoop.{whole_ok}
use Rattle.cfdp_pdus.proofs.OutcomeLoop.{copies, skips, none_left, never_cut, next_response}
use Rattle.cfdp_pdus.proofs.field.copy_responses.Goals as goal

pub unwrap-field-requires : goal.unwrap-field-requires
unwrap-field-requires c =
    let left = c.loop-read.read-iterator in
    let good = first_is_ok (outcome_fields left) (λ others. Ok others.0) (rest_is_ok c.args.count c.loop-read.responses.items (responses_in_fields left)
    (responses_in_fields (fields_at c.args.octets.now)) c.loop-read.invariant.copied c.requires) in
    whole_ok c.in-Some.read left c.next.new.self c.in-Some.ensures.steps (λ is_cut. never_cut left c.next.new.self is_cut good)

pub unwrap-response-requires : goal.unwrap-response-requires
unwrap-response-requires c =
    let left = c.loop-read.read-iterator in
    let good = first_is_ok (outcome_fields left) (λ others. Ok others.0) (rest_is_ok c.args.count c.loop-read.responses.items (responses_in_fields left)
    (responses_in_fields (fields_at c.args.octets.now)) c.loop-read.invariant.copied c.requires) in
    let field = c.unwrap-field.result in
    let read = c.in-Some.ensures.steps ∙ ap (λ r. field_if_whole r ∷ c.next.new.self) c.unwrap-field.ensures in
    rw c.read_response_parts.ensures (next_response left c.next.new.self field.kind field.value.now read c.if-field-eq-FILESTORE_RESPONSE.true good)

pub push_reserved-requires : goal.push_reserved-requires
push_reserved-requires c =
    let left = c.loop-read.read-iterator in
    let after = c.next.new.self in
    let total = responses_in_fields (fields_at c.args.octets.now) in
    let field = c.unwrap-field.result in
    let read = c.in-Some.ensures.steps ∙ ap (λ r. field_if_whole r ∷ c.next.new.self) c.unwrap-field.ensures in
    let front = c.loop-read.responses.items in
    let response = c.unwrap-response.result in
    let here = copies left after field.kind field.value.now response read c.if-field-eq-FILESTORE_RESPONSE.true
    (sym c.read_response_parts.ensures ∙ c.unwrap-response.ensures) in
    let so_far = join_next front response (responses_in_fields left) (responses_in_fields after) total here c.loop-read.invariant.copied in
    omega (
      arith,
      c.loop-read.invariant.len,
      c.loop-read.invariant.room,
      has_room c.args.count front response (responses_in_fields after) total so_far c.requires,
    )

pub loop-read-preserved-then-field-eq-FILESTORE_RESPONSE : goal.loop-read-preserved-then-field-eq-FILESTORE_RESPONSE
loop-read-preserved-then-field-eq-FILESTORE_RESPONSE c =
    let left = c.loop-read.read-iterator in
    let after = c.next.new.self in
    let field = c.unwrap-field.result in
    let read = c.in-Some.ensures.steps ∙ ap (λ r. field_if_whole r ∷ c.next.new.self) c.unwrap-field.ensures in
    let front = c.loop-read.responses.items in
    let response = c.unwrap-response.result in
    let here = copies left after field.kind field.value.now response read c.if-field-eq-FILESTORE_RESPONSE.true
    (sym c.read_response_parts.ensures ∙ c.unwrap-response.ensures) in
    let so_far = join_next front response (responses_in_fields left) (responses_in_fields after)
    (responses_in_fields (fields_at c.args.octets.now)) here c.loop-read.invariant.copied in
    let now = c.push_reserved.new.self in
    let pushed : now.items ≡ front ++ response ∷ [] = c.push_reserved.ensures.items ∙ ap (λ x. front ++ x ∷ []) c.in_ok-copy.ensures in
    record {
      copied = rw pushed so_far;
      len = omega (arith, c.push_reserved.ensures.len, ap length pushed, length-append front (response ∷ []), c.loop-read.invariant.len);
      room = omega (arith, c.push_reserved.ensures.capacity, c.loop-read.invariant.room);
    }

pub loop-read-preserved : goal.loop-read-preserved
loop-read-preserved c =
    let left = c.loop-read.read-iterator in
    let good = first_is_ok (outcome_fields left) (λ others. Ok others.0) (rest_is_ok c.args.count c.loop-read.responses.items (responses_in_fields left)
    (responses_in_fields (fields_at c.args.octets.now)) c.loop-read.invariant.copied c.requires) in
    let field = c.unwrap-field.result in
    let read = c.in-Some.ensures.steps ∙ ap (λ r. field_if_whole r ∷ c.next.new.self) c.unwrap-field.ensures in
    let here = skips left c.next.new.self field.kind field.value.now read (ne_eqb field.kind 1 c.if-field-eq-FILESTORE_RESPONSE.false) good in
    record {
      copied = sym (ap (joined c.loop-read.responses.items) here) ∙ c.loop-read.invariant.copied;
      len = c.loop-read.invariant.len;
      room = c.loop-read.invariant.room;
    }

pub returns : goal.returns
returns c =
    let left = c.loop-read.read-iterator in
    let here = ap (λ r. r >>= λ others. Ok others.0) (none_left left c.in-None.ensures.steps.0) in
    sym c.loop-read.invariant.copied ∙ join_none c.loop-read.responses.items (responses_in_fields left) here
