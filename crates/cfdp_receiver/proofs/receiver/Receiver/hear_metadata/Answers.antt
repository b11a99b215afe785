use Rattle.std.proofs.Common.{◌≡◌, refl, subst}
use Rattle.std.specs.Prelude.{IfOk, OnErr}
use Rattle.cfdp_receiver.specs.State.{MetadataPdu}
use Rattle.cfdp_receiver.specs.StateMachine.{StateMachineFields, AnswerParts}
use Rattle.cfdp_receiver.specs.code.StateMachine.{IsWholeReceiver, Turns, at_moment}
use Rattle.cfdp_receiver.proofs.CallsAnswer.{whole_where_ok}
use Rattle.cfdp_receiver.proofs.receiver.Receiver.hear_metadata.Goals as goal

pub invariant_of-self : goal.invariant_of-self
invariant_of-self c =
    let M = c.args.self.now in
    let N = c.metadata.new.self in
    let i = MetadataPdu c.args.now c.args.header c.args.metadata in
    let v = c.self.view_is in
    let done = subst (λ (X : StateMachineFields). IfOk c.metadata.result (λ (a : AnswerParts). Turns (at_moment c.args.now X) N a i)) v c.metadata.ensures.ok in
    let same = subst (λ (X : StateMachineFields). OnErr c.metadata.result (N ≡ X)) v c.metadata.ensures.unchanged in
    whole_where_ok M N i c.metadata.result refl (subst (λ (X : StateMachineFields). IsWholeReceiver X.state) v c.self.invariant)
    (c.stays_whole.ensures i) done same
