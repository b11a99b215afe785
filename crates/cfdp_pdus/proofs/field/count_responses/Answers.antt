use Rattle.std.proofs.Common.{◌∷◌, sym, ap, ◌∙◌, arith}
use Rattle.std.proofs.lemmas.Bool.{ne_eqb}
use Rattle.std.proofs.lemmas.Result.{err_from_is_err_and}
use Rattle.cfdp_pdus.specs.code.Fields.{field_if_whole}
use Rattle.cfdp_pdus.specs.First.{outcome_fields}
use Rattle.cfdp_pdus.proofs.Splits.{fields_len, fewer}
use Rattle.cfdp_pdus.proofs.OutcomeLoop.{tells, locates, passes, refused_response, refused_entity, cut, none_left, counted_outcome, count_first, count_none, count_response, count_entity}
use Rattle.cfdp_pdus.proofs.field.count_responses.Goals as goal

pub loop-read-init : goal.loop-read-init
loop-read-init c =
    let all = c.into_iter-read-iterator.ensures.into_iter_gives ∙ c.among-read-items.ensures in
    record { found = rw all (count_first _); small = rw all (omega (arith, fields_len c.args.octets.now)) }

pub returns-in_default : goal.returns-in_default
returns-in_default c =
    let left = c.loop-read.read-iterator in
    let read = c.in-Some.ensures.steps ∙ ap (λ r. field_if_whole r ∷ c.next.new.self) c.in_default.is in
    sym (ap (counted_outcome c.loop-read.count c.loop-read.fault) (cut left c.next.new.self read)) ∙ c.loop-read.invariant.found

pub returns-in_err-read_response_parts : goal.returns-in_err-read_response_parts
returns-in_err-read_response_parts c =
    let p = err_from_is_err_and c.from_residual.result c.from_residual.ensures.1 in
    let left = c.loop-read.read-iterator in
    let field = c.in-Ok.field in
    let read = c.in-Some.ensures.steps ∙ ap (λ r. field_if_whole r ∷ c.next.new.self) c.in-Ok.is in
    let here = refused_response left c.next.new.self field.kind field.value.now c.in_err-read_response_parts.field-0.0 read
    c.if-field-eq-FILESTORE_RESPONSE.true (sym c.in_err-read_response_parts.ensures) in
    rw (p.1, p.2) (sym (ap (counted_outcome c.loop-read.count c.loop-read.fault) here) ∙ c.loop-read.invariant.found)

pub returns-in_err-entity : goal.returns-in_err-entity
returns-in_err-entity c =
    let p = err_from_is_err_and c.from_residual-in_err-entity.result c.from_residual-in_err-entity.ensures.1 in
    let left = c.loop-read.read-iterator in
    let field = c.in-Ok.field in
    let read = c.in-Some.ensures.steps ∙ ap (λ r. field_if_whole r ∷ c.next.new.self) c.in-Ok.is in
    let here = refused_entity left c.next.new.self field.kind field.value.now c.in_err-entity.field-0.0 read
    c.if-field-eq-ENTITY_ID.true c.in_err-entity.ensures in
    rw (p.1, p.2) (sym (ap (counted_outcome c.loop-read.count c.loop-read.fault) here) ∙ c.loop-read.invariant.found)

pub loop-read-preserved-then-field-eq-FILESTORE_RESPONSE : goal.loop-read-preserved-then-field-eq-FILESTORE_RESPONSE
loop-read-preserved-then-field-eq-FILESTORE_RESPONSE c =
    let left = c.loop-read.read-iterator in
    let after = c.next.new.self in
    let field = c.in-Ok.field in
    let read = c.in-Some.ensures.steps ∙ ap (λ r. field_if_whole r ∷ c.next.new.self) c.in-Ok.is in
    let here = tells left after field.kind field.value.now c.in_ok-read_response_parts.field-0 read
    c.if-field-eq-FILESTORE_RESPONSE.true (sym c.in_ok-read_response_parts.ensures) in
    record {
      found = sym (count_response c.loop-read.count c.loop-read.fault c.in_ok-read_response_parts.field-0 (outcome_fields after))
          ∙ sym (ap (counted_outcome c.loop-read.count c.loop-read.fault) here) ∙ c.loop-read.invariant.found;
      small = omega (arith, fewer left after _ read, c.loop-read.invariant.small);
    }

pub loop-read-preserved-then-field-eq-ENTITY_ID : goal.loop-read-preserved-then-field-eq-ENTITY_ID
loop-read-preserved-then-field-eq-ENTITY_ID c =
    let left = c.loop-read.read-iterator in
    let after = c.next.new.self in
    let field = c.in-Ok.field in
    let read = c.in-Some.ensures.steps ∙ ap (λ r. field_if_whole r ∷ c.next.new.self) c.in-Ok.is in
    let here = locates left after field.kind field.value.now c.in_ok-entity.entity read c.if-field-eq-ENTITY_ID.true c.in_ok-entity.ensures in
    record {
      found = sym (count_entity c.loop-read.count c.loop-read.fault c.in_ok-entity.entity (outcome_fields after))
          ∙ sym (ap (counted_outcome c.loop-read.count c.loop-read.fault) here) ∙ c.loop-read.invariant.found;
      small = omega (arith, fewer left after _ read, c.loop-read.invariant.small);
    }

pub loop-read-preserved : goal.loop-read-preserved
loop-read-preserved c =
    let left = c.loop-read.read-iterator in
    let after = c.next.new.self in
    let field = c.in-Ok.field in
    let read = c.in-Some.ensures.steps ∙ ap (λ r. field_if_whole r ∷ c.next.new.self) c.in-Ok.is in
    let here = passes left after field.kind field.value.now read (ne_eqb field.kind 1 c.if-field-eq-FILESTORE_RESPONSE.false)
    (ne_eqb field.kind 6 c.if-field-eq-ENTITY_ID.false) in
    record {
      found = sym (ap (counted_outcome c.loop-read.count c.loop-read.fault) here) ∙ c.loop-read.invariant.found;
      small = omega (arith, fewer left after _ read, c.loop-read.invariant.small);
    }

pub returns : goal.returns
returns c =
    let left = c.loop-read.read-iterator in
    let here = none_left left c.in-None.ensures.steps.0 in
    sym (count_none c.loop-read.count c.loop-read.fault (outcome_fields left) here) ∙ c.loop-read.invariant.found
