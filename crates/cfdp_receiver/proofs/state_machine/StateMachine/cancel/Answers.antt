use Rattle.std.proofs.Common.{◌≡◌, Bool, Some, sym, ap, subst, ◌∙◌}
use Rattle.cfdp_sessions.specs.Sessions.{SessionFields, found}
use Rattle.cfdp_receiver.specs.State.{CancelAsked}
use Rattle.cfdp_receiver.specs.StateMachine.{StateMachineFields}
use Rattle.cfdp_receiver.specs.code.StateMachine.{Turns, machine_closed}
use Rattle.cfdp_receiver.proofs.CancelAsked.{cancel_held, cancel_waiting}
use Rattle.cfdp_receiver.proofs.Places.{place_at}
use Rattle.cfdp_receiver.proofs.state_machine.StateMachine.cancel.Goals as goal

pub returns-in-Held : goal.returns-in-Held
returns-in-Held c =
    let M = c.args.self.now in
    let s = c.session-session.result.now in
    let here : found M.state.sessions c.args.id ≡ Some s = c.in-Some.ensures.some.found ∙ c.session-session.ensures in
    let stage = ap (λ (x : SessionFields). x.stage) (sym c.session.view_is) ∙ c.in-Held.is in
    let turned = cancel_held M c.said-in-Held.result c.args.id s c.in-Held.field-0 here stage c.said-in-Held.ensures in
    subst (λ (N : StateMachineFields). Turns M N c.said-in-Held.result (CancelAsked M.state.now c.args.id))
    (sym (c.ends_here.ensures s c.session-session.ensures)) turned

pub close-requires-clause-place : goal.close-requires-clause-place
close-requires-clause-place c t at = place_at c.args.self.now.state c.in-Some.index t c.requires at

pub returns-in-Waiting : goal.returns-in-Waiting
returns-in-Waiting c =
    let M = c.args.self.now in
    let s = c.session-session.result.now in
    let here : found M.state.sessions c.args.id ≡ Some s = c.in-Some.ensures.some.found ∙ c.session-session.ensures in
    let waits = ap (λ (t : SessionFields). t.stage) (sym c.session.view_is) ∙ c.in-Waiting.is in
    let closed : c.close.new.self ≡ machine_closed M s =
    c.close.ensures s c.session-session.ensures
    ∙ ap (λ (b : Bool). machine_closed M (record s { has_changed = b })) (ap (λ (t : SessionFields). t.has_changed) c.session.view_is) in
    subst (λ (N : StateMachineFields). Turns M N c.said-in-Waiting.result (CancelAsked M.state.now c.args.id)) (sym closed)
    (cancel_waiting M c.said-in-Waiting.result c.args.id s here waits c.said-in-Waiting.ensures)
