use Rattle.std.proofs.Common.{◌∷◌, ap, ◌∙◌}
use Rattle.cfdp_pdus.specs.First.{fields_at, all_whole}
use Rattle.cfdp_pdus.proofs.FieldLoop.{whole_of_err, whole_of_ok}
use Rattle.cfdp_pdus.proofs.WholeLoop.{goes_on, cut, is_done}
use Rattle.cfdp_pdus.proofs.field.check_fields.Goals as goal

pub returns-then-is_err : goal.returns-then-is_err
returns-then-is_err c =
    let read = c.in-Some.ensures.steps ∙ ap (λ f. f ∷ c.next.new.self) (whole_of_err c.in-Some.read c.if-is_err.ensures.value) in
    cut c.loop-read.read-iterator c.next.new.self (all_whole (fields_at c.args.octets.now)) read c.loop-read.invariant

pub loop-read-preserved : goal.loop-read-preserved
loop-read-preserved c =
    let some = whole_of_ok c.in-Some.read c.if-is_err.ensures.value in
    let read = c.in-Some.ensures.steps ∙ ap (λ f. f ∷ c.next.new.self) some.1 in
    goes_on c.loop-read.read-iterator c.next.new.self some.0 (all_whole (fields_at c.args.octets.now)) read c.loop-read.invariant

pub returns : goal.returns
returns c = is_done c.loop-read.read-iterator (all_whole (fields_at c.args.octets.now)) c.in-None.ensures.steps.0 c.loop-read.invariant
