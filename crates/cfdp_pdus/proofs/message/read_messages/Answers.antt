use Rattle.std.proofs.Common.{sym, ap, ◌∙◌}
use Rattle.cfdp_pdus.proofs.MessageSteps.{found, messages_are, none_in_nothing, spelled_messages, no_messages}
use Rattle.cfdp_pdus.proofs.message.read_messages.Goals as goal

pub returns-in-Ok-clause-exact : goal.returns-in-Ok-clause-exact
returns-in-Ok-clause-exact c = sym (messages_are c.args.octets.now ∙ ap found c.in-Ok.ensures)

pub returns-in-Ok-clause-spelled : goal.returns-in-Ok-clause-spelled
returns-in-Ok-clause-spelled c = λ header metadata said.
    sym (messages_are c.args.octets.now ∙ ap found c.in-Ok.ensures) ∙ spelled_messages c.args.octets.now header metadata said

pub returns-in-Ok-clause-none : goal.returns-in-Ok-clause-none
returns-in-Ok-clause-none c = λ never.
    sym (messages_are c.args.octets.now ∙ ap found c.in-Ok.ensures) ∙ no_messages c.args.octets.now never

pub returns-in-Err-clause-exact : goal.returns-in-Err-clause-exact
returns-in-Err-clause-exact c = none_in_nothing ∙ sym (messages_are c.args.octets.now ∙ ap found c.in-Err.ensures)

pub returns-in-Err-clause-spelled : goal.returns-in-Err-clause-spelled
returns-in-Err-clause-spelled c = λ header metadata said.
    none_in_nothing ∙ sym (messages_are c.args.octets.now ∙ ap found c.in-Err.ensures) ∙ spelled_messages c.args.octets.now header metadata said

pub returns-in-Err-clause-none : goal.returns-in-Err-clause-none
returns-in-Err-clause-none c = λ never. none_in_nothing
