use Rattle.std.specs.Prelude.{slice_get}
use Rattle.std.proofs.Common.{◌≡◌, ◌||◌, Bool, List, length, get_or, Some, refl, ap, ◌∙◌, arith}
use Rattle.std.proofs.lemmas.Option.{slice_get_read}
use Rattle.cfdp_sessions.specs.Sessions.{SessionFields}
use Rattle.cfdp_receiver.specs.State.{State}
use Rattle.cfdp_receiver.specs.StateMachine.{StateMachineFields, has_come}
use Rattle.cfdp_receiver.proofs.DueTimers.{any_more}
use Rattle.cfdp_receiver.proofs.state_machine.StateMachine.deadline.Goals as goal

pub loop-session-preserved : goal.loop-session-preserved
loop-session-preserved c now small =
    let R : State = record c.args.self.now.state { now = now } in
    let ss = c.args.self.now.state.sessions in
    let s = c.session-item.result in
    let items : c.as_slice-session-items.result.now ≡ ss = c.as_slice-session-items.ensures ∙ ap
    (λ (m : StateMachineFields). m.state.sessions) c.self.view_is in
    let i = c.loop-session.session-index in
    let at : slice_get ss i ≡ Some s =
    slice_get_read ss (length ss) i s refl (omega (arith, ap length items)) (c.session-item.is ∙ ap (λ (xs : List SessionFields). get_or xs i s) items) in
    any_more R ss i s (has_come c.loop-session.earliest now) (has_come c.earlier-earliest.result now)
    (has_come c.stage_deadline.result now) (has_come c.alive_deadline.result now) at
    (c.loop-session.invariant now small) (c.stage_deadline.ensures now small) (c.alive_deadline.ensures now small)
    (c.earlier-earliest.ensures now ∙ ap (λ (b : Bool). has_come c.loop-session.earliest now || b) (c.earlier-moment.ensures now))
