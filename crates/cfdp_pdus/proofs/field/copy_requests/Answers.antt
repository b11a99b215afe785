use Rattle.std.proofs.Common.{◌≡◌, ◌++◌, ◌∷◌, [], sym, ap, ◌∙◌, length, length-append, arith}
use Rattle.std.proofs.lemmas.Bool.{ne_eqb}
use Rattle.cfdp_pdus.specs.code.Fields.{field_if_whole}
use Rattle.cfdp_pdus.specs.First.{fields_at, requests_of}
use Rattle.cfdp_pdus.proofs.CountSteps.{joined, join_none, join_next, rest_is_ok, has_room}
use Rattle.cfdp_pdus.proofs.FieldLoop.{whole_ok}
use Rattle.cfdp_pdus.proofs.RequestLoop.{asks, passes, none_left, never_cut, next_request}
use Rattle.cfdp_pdus.proofs.field.copy_requests.Goals as goal

pub unwrap-field-requires : goal.unwrap-field-requires
unwrap-field-requires c =
    let left = c.loop-read.read-iterator in
    let good = rest_is_ok c.args.count c.loop-read.requests.items (requests_of left) (requests_of (fields_at c.args.octets.now))
    c.loop-read.invariant.copied c.requires in
    whole_ok c.in-Some.read left c.next.new.self c.in-Some.ensures.steps (λ is_cut. never_cut left c.next.new.self is_cut good)

pub unwrap-request-requires : goal.unwrap-request-requires
unwrap-request-requires c =
    let left = c.loop-read.read-iterator in
    let good = rest_is_ok c.args.count c.loop-read.requests.items (requests_of left) (requests_of (fields_at c.args.octets.now))
    c.loop-read.invariant.copied c.requires in
    let field = c.unwrap-field.result in
    let read = c.in-Some.ensures.steps ∙ ap (λ r. field_if_whole r ∷ c.next.new.self) c.unwrap-field.ensures in
    rw c.read_request_parts.ensures (next_request left c.next.new.self field.kind field.value.now read c.if-field-eq-FILESTORE_REQUEST.true good)

pub push_reserved-requires : goal.push_reserved-requires
push_reserved-requires c =
    let left = c.loop-read.read-iterator in
    let after = c.next.new.self in
    let total = requests_of (fields_at c.args.octets.now) in
    let field = c.unwrap-field.result in
    let read = c.in-Some.ensures.steps ∙ ap (λ r. field_if_whole r ∷ c.next.new.self) c.unwrap-field.ensures in
    let front = c.loop-read.requests.items in
    let request = c.unwrap-request.result in
    let here = asks left after field.kind field.value.now request read c.if-field-eq-FILESTORE_REQUEST.true
    (sym c.read_request_parts.ensures ∙ c.unwrap-request.ensures) in
    let so_far = join_next front request (requests_of left) (requests_of after) total here c.loop-read.invariant.copied in
    omega (
      arith,
      c.loop-read.invariant.len,
      c.loop-read.invariant.room,
      has_room c.args.count front request (requests_of after) total so_far c.requires,
    )

pub loop-read-preserved-then-field-eq-FILESTORE_REQUEST : goal.loop-read-preserved-then-field-eq-FILESTORE_REQUEST
loop-read-preserved-then-field-eq-FILESTORE_REQUEST c =
    let left = c.loop-read.read-iterator in
    let after = c.next.new.self in
    let field = c.unwrap-field.result in
    let read = c.in-Some.ensures.steps ∙ ap (λ r. field_if_whole r ∷ c.next.new.self) c.unwrap-field.ensures in
    let front = c.loop-read.requests.items in
    let request = c.unwrap-request.result in
    let here = asks left after field.kind field.value.now request read c.if-field-eq-FILESTORE_REQUEST.true
    (sym c.read_request_parts.ensures ∙ c.unwrap-request.ensures) in
    let so_far = join_next front request (requests_of left) (requests_of after)
    (requests_of (fields_at c.args.octets.now)) here c.loop-read.invariant.copied in
    let now = c.push_reserved.new.self in
    let pushed : now.items ≡ front ++ request ∷ [] = c.push_reserved.ensures.items ∙ ap (λ x. front ++ x ∷ []) c.in_ok-copy.ensures in
    record {
      copied = rw pushed so_far;
      len = omega (arith, c.push_reserved.ensures.len, ap length pushed, length-append front (request ∷ []), c.loop-read.invariant.len);
      room = omega (arith, c.push_reserved.ensures.capacity, c.loop-read.invariant.room);
    }

pub loop-read-preserved : goal.loop-read-preserved
loop-read-preserved c =
    let left = c.loop-read.read-iterator in
    let field = c.unwrap-field.result in
    let read = c.in-Some.ensures.steps ∙ ap (λ r. field_if_whole r ∷ c.next.new.self) c.unwrap-field.ensures in
    let here = passes left c.next.new.self field.kind field.value.now read (ne_eqb field.kind 0 c.if-field-eq-FILESTORE_REQUEST.false) in
    record {
      copied = sym (ap (joined c.loop-read.requests.items) here) ∙ c.loop-read.invariant.copied;
      len = c.loop-read.invariant.len;
      room = c.loop-read.invariant.room;
    }

pub returns : goal.returns
returns c =
    let left = c.loop-read.read-iterator in
    let here = none_left left c.in-None.ensures.steps.0 in
    sym c.loop-read.invariant.copied ∙ join_none c.loop-read.requests.items (requests_of left) here
