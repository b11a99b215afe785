use Rattle.std.proofs.Common.{ap, subst, ◌∙◌}
use Rattle.cfdp_sessions.specs.Sessions.{AreDistinct}
use Rattle.cfdp_transactions.specs.Sound.{Sound}
use Rattle.cfdp_receiver.specs.declared.receiver.Receiver.TheInside.{Inside}
use Rattle.cfdp_receiver.specs.StateMachine.{StateMachineFields}
use Rattle.cfdp_receiver.specs.code.StateMachine.{IsWholeReceiver}
use Rattle.cfdp_receiver.proofs.SessionsAreKnown.{Laws}
use Rattle.cfdp_receiver.proofs.StaysWhole.{whole_after}
use Rattle.cfdp_receiver.proofs.receiver.Receiver.stays_whole.Goals as goal

pub returns : goal.returns
returns c input =
    let laws : Laws = record { only_take = c.only_take_removes.ensures; takes = c.take_removes.ensures } in
    let v = ap (λ (x : Inside). x.machine) c.self-inside.view_is ∙ c.self.view_is in
    let sound = subst (λ (X : StateMachineFields). Sound X.state.world) v c.sound.ensures in
    let distinct = subst (λ (X : StateMachineFields). AreDistinct X.state.sessions) v c.distinct.ensures in
    let whole = subst (λ (X : StateMachineFields). IsWholeReceiver X.state) c.self.view_is c.self.invariant in
    whole_after laws c.next_is_sound.ensures c.next_is_promised.ensures c.args.self.now.state input sound distinct whole
