use Rattle.std.specs.Prelude.{Ok}
use Rattle.std.proofs.Common.{rules, ◌≡◌, true, sym, ap, ◌∙◌}
use Rattle.cfdp_receiver.specs.State.{MetadataPdu, EofPdu, AckPdu, PromptPdu, OtherPdu, now_of}
use Rattle.cfdp_receiver.specs.Heard.{input_at}
use Rattle.cfdp_receiver.specs.StateMachine.{StateMachineFields}
use Rattle.cfdp_receiver.specs.Turning.{is_too_far}
use Rattle.cfdp_receiver.specs.code.Heard.{input_of}
use Rattle.cfdp_receiver.proofs.CallsAnswer.{heard_ok, not_taken, read_at}
use Rattle.cfdp_receiver.proofs.receiver.Receiver.hear_directed.Goals as goal

pub returns-in-Eof-clause-ok : goal.returns-in-Eof-clause-ok
returns-in-Eof-clause-ok c =
    let i = EofPdu c.args.now c.in-Eof.header c.in-Eof.eof in
    let read : input_at c.args.now c.args.octets.now ≡ Ok i = search rules in
    (i, read, c.hear_eof.ensures)

pub returns-in-Ack-clause-ok : goal.returns-in-Ack-clause-ok
returns-in-Ack-clause-ok c =
    let i = AckPdu c.args.now c.in-Ack.header c.in-Ack.ack in
    let read : input_at c.args.now c.args.octets.now ≡ Ok i = search rules in
    (i, read, c.hear_ack.ensures)

pub returns-in-Prompt-clause-ok : goal.returns-in-Prompt-clause-ok
returns-in-Prompt-clause-ok c =
    let i = PromptPdu c.args.now c.in-Prompt.header c.in-Prompt.prompt in
    let read : input_at c.args.now c.args.octets.now ≡ Ok i = search rules in
    (i, read, c.hear_prompt.ensures)

pub returns-in-Other-clause-ok : goal.returns-in-Other-clause-ok
returns-in-Other-clause-ok c =
    let i = OtherPdu c.args.now c.in-Other.header in
    let read : input_at c.args.now c.args.octets.now ≡ Ok i = search rules in
    (i, read, c.hear_other.ensures)

pub returns-in-Metadata-clause-ok : goal.returns-in-Metadata-clause-ok
returns-in-Metadata-clause-ok c =
    let i = MetadataPdu c.args.now c.in-Metadata.header c.in-Metadata.metadata in
    let read : input_at c.args.now c.args.octets.now ≡ Ok i = search rules in
    heard_ok (input_at c.args.now c.args.octets.now) c.args.self.now c.hear_metadata.new.self i c.hear_metadata.result read c.hear_metadata.ensures.ok

pub returns-then-is_too_far-clause-ok : goal.returns-then-is_too_far-clause-ok
returns-then-is_too_far-clause-ok c =
    let d = c.in_ok-directed.directed in
    let i = input_of c.args.now d in
    let far : is_too_far c.args.self.now.state (now_of i) ≡ true =
    ap (is_too_far c.args.self.now.state) (read_at c.args.now d)
    ∙ sym (c.is_too_far.ensures ∙ ap (λ (m : StateMachineFields). is_too_far m.state c.args.now) c.self.view_is) ∙ c.if-is_too_far.true in
    (i, c.in_ok-directed.ensures.ok c.args.now, not_taken c.args.self.now c.not_taken.result i far c.not_taken.ensures)
