use Rattle.std.proofs.Common.{ap, ◌∙◌}
use Rattle.std.proofs.lemmas.Bool.{ne_eqb}
use Rattle.cfdp_pdus.specs.Messages.{messages_among}
use Rattle.cfdp_pdus.proofs.Splits.{nil_is}
use Rattle.cfdp_pdus.proofs.MessageSteps.{message_here, no_message_here, none_after, none_in_nothing}
use Rattle.cfdp_pdus.proofs.message.first_message.Goals as goal

pub returns-in_default-clause-none : goal.returns-in_default-clause-none
returns-in_default-clause-none c =
    c.fields.invariant ∙ none_after c.fields.rest.now c.in_default.field-0 c.in_default.ensures.exact

pub returns-then-field-eq-MESSAGE_TO_USER-clause-some : goal.returns-then-field-eq-MESSAGE_TO_USER-clause-some
returns-then-field-eq-MESSAGE_TO_USER-clause-some c =
    let field = c.in-Ok.field in
    c.fields.invariant
    ∙ message_here c.fields.rest.now field.kind field.value.now field.rest.now c.in-Ok.ensures.exact c.if-field-eq-MESSAGE_TO_USER.true

pub fields-preserved : goal.fields-preserved
fields-preserved c =
    let field = c.in-Ok.field in
    c.fields.invariant
    ∙ no_message_here c.fields.rest.now field.kind field.value.now field.rest.now c.in-Ok.ensures.exact
    (ne_eqb field.kind 2 c.if-field-eq-MESSAGE_TO_USER.false)

pub returns-clause-none : goal.returns-clause-none
returns-clause-none c =
    c.fields.invariant ∙ ap messages_among (nil_is c.fields.rest.now c.fields-test.ensures) ∙ none_in_nothing
