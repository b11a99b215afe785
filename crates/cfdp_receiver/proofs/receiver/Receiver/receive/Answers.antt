use Rattle.std.proofs.Common.{rules, ◌≡◌, true, sym, ap, ◌∙◌}
use Rattle.std.specs.Prelude.{Ok}
use Rattle.cfdp_receiver.specs.State.{DataPdu}
use Rattle.cfdp_receiver.specs.Heard.{heard}
use Rattle.cfdp_receiver.specs.StateMachine.{StateMachineFields, AnswerParts, answer_in}
use Rattle.cfdp_receiver.specs.Turning.{is_too_far, turn}
use Rattle.cfdp_receiver.proofs.CallsAnswer.{counted_by, not_taken_by, nothing_taken}
use Rattle.cfdp_receiver.proofs.receiver.Receiver.receive.Goals as goal

pub returns-clause-ok : goal.returns-clause-ok
returns-clause-ok c =
    let i = DataPdu c.args.now c.in-Some.header c.in-Some.piece in
    let h = c.hear_in_order-unsent in
    let read : heard c.args.now c.args.octets.now ≡ Ok i = search rules in
    let counted : c.count.new.self ≡ counted_by c.args.self.now = c.count.ensures ∙ ap counted_by c.self.view_is in
    let made = ap (λ (m : StateMachineFields). turn m.state i) (sym counted) ∙ h.ensures.ok in
    (i, read, made ∙ ap (λ (a : AnswerParts). (h.new.self.state, answer_in h.new.self a)) (sym c.answer.ensures))

pub returns-then-is_too_far-clause-ok : goal.returns-then-is_too_far-clause-ok
returns-then-is_too_far-clause-ok c =
    let i = DataPdu c.args.now c.in-Some.header c.in-Some.piece in
    let M = c.args.self.now in
    let nothing = c.take_nothing in
    let read : heard c.args.now c.args.octets.now ≡ Ok i = search rules in
    let far : is_too_far M.state c.args.now ≡ true =
    sym (c.is_too_far.ensures ∙ ap (λ (m : StateMachineFields). is_too_far m.state c.args.now) c.self.view_is) ∙ c.if-is_too_far.true in (
      i,
      read,
      nothing_taken M nothing.new.self nothing.result i far (nothing.ensures.machine ∙ ap counted_by c.self.view_is)
          (nothing.ensures.answer ∙ ap not_taken_by c.self.view_is),
    )
