use Rattle.std.proofs.Common.{List, Option, None, ◌∷◌, sym, ap, ◌∙◌}
use Rattle.cfdp_pdus.specs.Grammar.{Field}
use Rattle.cfdp_pdus.specs.First.{fields_at}
use Rattle.cfdp_pdus.proofs.Splits.{not_nil, nil_is, fields_at-step, fields_at-cut, fields_at-nil, fewer}
use Rattle.cfdp_pdus.proofs.tlv_fields.TlvFieldsIterator.next.Goals as goal

pub returns-then-is_empty-clause-steps : goal.returns-then-is_empty-clause-steps
returns-then-is_empty-clause-steps c =
    let none = sym c.self.view_is ∙ ap fields_at (nil_is c.self.inside.rest.now c.if-is_empty.ensures) ∙ fields_at-nil in
    (none, none)

pub returns-in-Ok-clause-steps : goal.returns-in-Ok-clause-steps
returns-in-Ok-clause-steps c =
    let field = c.in-Ok.field in
    sym c.self.view_is ∙ fields_at-step c.self.inside.rest.now field.kind field.value.now field.rest.now c.in-Ok.ensures.exact

pub returns-in-Ok-clause-goes : goal.returns-in-Ok-clause-goes
returns-in-Ok-clause-goes c = record { on = λ _. (tt, tt, fewer _ _ _ (returns-in-Ok-clause-steps c)); keeps = tt; rests = λ _. tt }

pub returns-in-Err-clause-steps : goal.returns-in-Err-clause-steps
returns-in-Err-clause-steps c =
    let some = not_nil c.self.inside.rest.now c.if-is_empty.ensures in
    sym c.self.view_is ∙ fields_at-cut c.self.inside.rest.now c.in-Err.fault some c.in-Err.ensures.exact
    ∙ sym (ap (λ (fields : List (Option Field)). None ∷ fields) fields_at-nil)

pub returns-in-Err-clause-goes : goal.returns-in-Err-clause-goes
returns-in-Err-clause-goes c = record { on = λ _. (tt, tt, fewer _ _ _ (returns-in-Err-clause-steps c)); keeps = tt; rests = λ _. tt }
