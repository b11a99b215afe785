use Rattle.std.proofs.Common.{length, sym, ap, ◌∙◌, arith}
use Rattle.cfdp_retransmission.specs.declared.timer.Expiry.{Expiry}
use Rattle.cfdp_retransmission.specs.declared.timer.Expiry.TheVariants.{NotDue}
use Rattle.cfdp_sessions.specs.Sessions.{SessionFields}
use Rattle.cfdp_receiver.specs.Due.{Due, Stage_due, Alive_due, due_by, is_alive_due}
use Rattle.cfdp_receiver.specs.StateMachine.{StateMachineFields}
use Rattle.cfdp_receiver.proofs.DueTimers.{timer_here, none_here, none_at_all}
use Rattle.cfdp_receiver.proofs.state_machine.StateMachine.first_due.Goals as goal
use Rattle.std.specs.Prelude.{Bool, true, false}

pub returns-in-Again-clause-due : goal.returns-in-Again-clause-due
returns-in-Again-clause-due c =
    let R = c.args.self.now.state in
    let s = c.session-session.result.now in
    timer_here R R.sessions c.loop-index.index s (λ (t : SessionFields). Stage_due t false) c.session-session.ensures
    (λ (later : Due). ap (λ (e : Expiry). due_by e (is_alive_due R s) s later) (sym c.expiry.ensures ∙ c.in-Again.is))
    c.loop-index.invariant

pub returns-in-Limit-clause-due : goal.returns-in-Limit-clause-due
returns-in-Limit-clause-due c =
    let R = c.args.self.now.state in
    let s = c.session-session.result.now in
    timer_here R R.sessions c.loop-index.index s (λ (t : SessionFields). Stage_due t true) c.session-session.ensures
    (λ (later : Due). ap (λ (e : Expiry). due_by e (is_alive_due R s) s later) (sym c.expiry.ensures ∙ c.in-Limit.is))
    c.loop-index.invariant

pub returns-then-is_alive_due-clause-due : goal.returns-then-is_alive_due-clause-due
returns-then-is_alive_due-clause-due c =
    let R = c.args.self.now.state in
    let s = c.session-session.result.now in
    timer_here R R.sessions c.loop-index.index s (λ (t : SessionFields). Alive_due t) c.session-session.ensures
    (λ (later : Due).
    ap (λ (e : Expiry). due_by e (is_alive_due R s) s later) (sym c.expiry.ensures ∙ c.in-NotDue.is)
    ∙ ap (λ (b : Bool). due_by NotDue b s later) (sym c.is_alive_due.ensures ∙ c.if-is_alive_due.true))
    c.loop-index.invariant

pub loop-index-preserved : goal.loop-index-preserved
loop-index-preserved c =
    let R = c.args.self.now.state in
    none_here R R.sessions c.loop-index.index c.session-session.result.now c.session-session.ensures
    (sym c.expiry.ensures ∙ c.in-NotDue.is) (sym c.is_alive_due.ensures ∙ c.if-is_alive_due.false) c.loop-index.invariant

pub returns-clause-due : goal.returns-clause-due
returns-clause-due c =
    let R = c.args.self.now.state in
    let all = ap (λ (m : StateMachineFields). length m.state.sessions) c.self.view_is in
    none_at_all R R.sessions c.loop-index.index (omega (arith, all)) c.loop-index.invariant
