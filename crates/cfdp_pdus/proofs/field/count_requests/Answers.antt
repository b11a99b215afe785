use Rattle.std.proofs.Common.{◌∷◌, sym, ap, ◌∙◌, arith}
use Rattle.std.proofs.lemmas.Bool.{ne_eqb}
use Rattle.std.proofs.lemmas.Result.{err_from_is_err_and}
use Rattle.cfdp_pdus.specs.code.Counting.{count_read}
use Rattle.cfdp_pdus.specs.code.Fields.{field_if_whole}
use Rattle.cfdp_pdus.specs.First.{fields_at, requests_of}
use Rattle.cfdp_pdus.proofs.Splits.{fields_len, fewer}
use Rattle.cfdp_pdus.proofs.CountSteps.{counted, count_first, count_none, count_next}
use Rattle.cfdp_pdus.proofs.RequestLoop.{asks, passes, refused, cut, none_left}
use Rattle.cfdp_pdus.proofs.field.count_requests.Goals as goal

pub loop-read-init : goal.loop-read-init
loop-read-init c =
    let all = c.into_iter-read-iterator.ensures.into_iter_gives ∙ c.among-read-items.ensures in
    record { found = rw all (count_first _); small = rw all (omega (arith, fields_len c.args.octets.now)) }

pub returns-in_default : goal.returns-in_default
returns-in_default c =
    let left = c.loop-read.read-iterator in
    let read = c.in-Some.ensures.steps ∙ ap (λ r. field_if_whole r ∷ c.next.new.self) c.in_default.is in
    sym (ap (counted c.loop-read.count) (cut left c.next.new.self read)) ∙ c.loop-read.invariant.found

pub returns-in_err-read_request_parts : goal.returns-in_err-read_request_parts
returns-in_err-read_request_parts c =
    let p = err_from_is_err_and c.from_residual.result c.from_residual.ensures.1 in
    let left = c.loop-read.read-iterator in
    let field = c.in-Ok.field in
    let read = c.in-Some.ensures.steps ∙ ap (λ r. field_if_whole r ∷ c.next.new.self) c.in-Ok.is in
    let here = refused left c.next.new.self field.kind field.value.now c.in_err-read_request_parts.field-0.0 read
    c.if-field-eq-FILESTORE_REQUEST.true (sym c.in_err-read_request_parts.ensures) in
    rw (p.1, p.2) (sym (ap (counted c.loop-read.count) here) ∙ c.loop-read.invariant.found)

pub loop-read-preserved-then-field-eq-FILESTORE_REQUEST : goal.loop-read-preserved-then-field-eq-FILESTORE_REQUEST
loop-read-preserved-then-field-eq-FILESTORE_REQUEST c =
    let left = c.loop-read.read-iterator in
    let field = c.in-Ok.field in
    let read = c.in-Some.ensures.steps ∙ ap (λ r. field_if_whole r ∷ c.next.new.self) c.in-Ok.is in
    let request = c.in_ok-read_request_parts.field-0 in
    let here = asks left c.next.new.self field.kind field.value.now request read c.if-field-eq-FILESTORE_REQUEST.true
    (sym c.in_ok-read_request_parts.ensures) in
    record {
      found = count_next c.loop-read.count request (requests_of left) (requests_of c.next.new.self)
          (count_read (requests_of (fields_at c.args.octets.now))) here c.loop-read.invariant.found;
      small = omega (arith, fewer left c.next.new.self _ read, c.loop-read.invariant.small);
    }

pub loop-read-preserved : goal.loop-read-preserved
loop-read-preserved c =
    let left = c.loop-read.read-iterator in
    let field = c.in-Ok.field in
    let read = c.in-Some.ensures.steps ∙ ap (λ r. field_if_whole r ∷ c.next.new.self) c.in-Ok.is in
    let here = passes left c.next.new.self field.kind field.value.now read (ne_eqb field.kind 0 c.if-field-eq-FILESTORE_REQUEST.false) in
    record {
      found = sym (ap (counted c.loop-read.count) here) ∙ c.loop-read.invariant.found;
      small = omega (arith, fewer left c.next.new.self _ read, c.loop-read.invariant.small);
    }

pub returns : goal.returns
returns c =
    let left = c.loop-read.read-iterator in
    let here = none_left left c.in-None.ensures.steps.0 in
    sym (count_none c.loop-read.count (requests_of left) here) ∙ c.loop-read.invariant.found
