use Rattle.std.specs.Prelude.{slice_get}
use Rattle.std.proofs.Common.{◌≡◌, true, false, List, rules, length, sym, ap, subst, ◌∙◌, arith}
use Rattle.cfdp_retransmission.specs.declared.timer.Timer.{Timer}
use Rattle.cfdp_retransmission.specs.declared.timer.Expiry.TheVariants.{Again}
use Rattle.cfdp_retransmission.specs.Timers.{passed}
use Rattle.cfdp_sessions.specs.Sessions.{SessionFields, replaced}
use Rattle.cfdp_receiver.specs.State.{At_waiting, at_of}
use Rattle.cfdp_receiver.specs.Due.{IsSet}
use Rattle.cfdp_receiver.specs.StateMachine.{StateMachineFields}
use Rattle.cfdp_receiver.specs.code.StateMachine.{all_naks}
use Rattle.cfdp_receiver.specs.Turning as Turning
use Rattle.cfdp_receiver.proofs.LimitsReached.{with_lists}
use Rattle.cfdp_receiver.proofs.FinishedSentAtMost.{stage_due}
use Rattle.cfdp_receiver.proofs.DueTimers.{began_before}
use Rattle.cfdp_receiver.proofs.Repeating.{replaced_length, asks_same, again_in, again_session, again_turns, says_finished, says_naks}
use Rattle.cfdp_receiver.proofs.state_machine.StateMachine.expires.Goals as goal

pub again-timer-requires : goal.again-timer-requires
again-timer-requires c =
    let M = c.args.self.now in
    let R = M.state in
    let s = c.session-session.result.now in
    let e = c.session-session.ensures in
    let due = stage_due R R.sessions s false (c.requires.due s e) in
    let set = subst (λ (m : StateMachineFields). IsSet m.state.mib) c.self.view_is c.self.invariant.set in
    let began = began_before R s set due.1 in
    let now = ap (λ (m : StateMachineFields). m.state.now) c.self.view_is in
    let since = ap (λ (t : SessionFields). t.timer.since) c.session.view_is in
    omega (arith, began, now, since, c.session.invariant.counted)

pub set_timer-requires-clause-counted : goal.set_timer-requires-clause-counted
set_timer-requires-clause-counted c =
    let M = c.args.self.now in
    let R = M.state in
    let s = c.session-session.result.now in
    let e = c.session-session.ensures in
    let due = stage_due R R.sessions s false (c.requires.due s e) in
    let set = subst (λ (m : StateMachineFields). IsSet m.state.mib) c.self.view_is c.self.invariant.set in
    let began = began_before R s set due.1 in
    let now = ap (λ (m : StateMachineFields). m.state.now) c.self.view_is in
    let since = ap (λ (t : SessionFields). t.timer.since) c.session.view_is in
    let count = ap (λ (t : Timer). t.count) c.again-timer.ensures in
    let later = ap (λ (t : Timer). t.since) c.again-timer.ensures in
    omega (arith, began, now, since, count, later, c.session.invariant.counted)

pub session-requires : goal.session-requires
session-requires c =
    let M = c.args.self.now in
    let R = M.state in
    let s = c.session-session.result.now in
    let e = c.session-session.ensures in
    let checked = c.self-2.view_is ∙ c.hand_check.ensures s e in
    let still = ap (λ (m : StateMachineFields). m.state.sessions) checked in
    let own : SessionFields = record s { timer = c.again-timer.result } in
    let put : c.set_timer.new.self ≡ replaced R.sessions own =
    c.set_timer.ensures s (ap (λ (xs : List SessionFields). slice_get xs c.args.index) still ∙ e) ∙ ap (λ (xs : List SessionFields). replaced xs own) still in
    omega (arith, ap (λ (xs : List SessionFields). length xs) put, replaced_length R.sessions own, c.requires.here)

pub returns-then-eq : goal.returns-then-eq
returns-then-eq c =
    let M = c.args.self.now in
    let R = M.state in
    let s = c.session-session.result.now in
    let e = c.session-session.ensures in
    let checked = c.self-2.view_is ∙ c.hand_check.ensures s e in
    let still = ap (λ (m : StateMachineFields). m.state.sessions) checked in
    let own : SessionFields = record s { timer = c.again-timer.result } in
    let put : c.set_timer.new.self ≡ replaced R.sessions own =
    c.set_timer.ensures s (ap (λ (xs : List SessionFields). slice_get xs c.args.index) still ∙ e) ∙ ap (λ (xs : List SessionFields). replaced xs own) still in
    let served : c.again-timer.result ≡ passed R.now s.timer Again =
    c.again-timer.ensures
    ∙ ap (λ (m : StateMachineFields). passed m.state.now c.session.inside.timer Again) c.self.view_is
    ∙ ap (λ (t : SessionFields). passed R.now t.timer Again) c.session.view_is in
    let renewed : c.set_timer.new.self ≡ replaced R.sessions (again_session M s) =
    put ∙ ap (λ (t : Timer). replaced R.sessions (record s { timer = t })) served in
    let is =
    ap (λ (m : StateMachineFields). record m { state = record m.state { sessions = c.set_timer.new.self } }) checked
    ∙ ap (λ (xs : List SessionFields). with_lists M (again_in M s) xs R.closed) renewed in
    let waits : at_of R.world s ≡ At_waiting = search rules in
    again_turns M _ c.with_finished.result s (c.requires.due s e) is
    (says_finished M c.with_finished.result c.said-answer.result s c.name-id.result c.args.index e
    c.name-id.ensures c.said-answer.ensures c.with_finished.ensures waits)

pub returns-then-acknowledged : goal.returns-then-acknowledged
returns-then-acknowledged c =
    let M = c.args.self.now in
    let R = M.state in
    let s = c.session-session.result.now in
    let e = c.session-session.ensures in
    let checked = c.self-2.view_is ∙ c.hand_check.ensures s e in
    let still = ap (λ (m : StateMachineFields). m.state.sessions) checked in
    let own : SessionFields = record s { timer = c.again-timer.result } in
    let put : c.set_timer.new.self ≡ replaced R.sessions own =
    c.set_timer.ensures s (ap (λ (xs : List SessionFields). slice_get xs c.args.index) still ∙ e) ∙ ap (λ (xs : List SessionFields). replaced xs own) still in
    let served : c.again-timer.result ≡ passed R.now s.timer Again =
    c.again-timer.ensures
    ∙ ap (λ (m : StateMachineFields). passed m.state.now c.session.inside.timer Again) c.self.view_is
    ∙ ap (λ (t : SessionFields). passed R.now t.timer Again) c.session.view_is in
    let renewed : c.set_timer.new.self ≡ replaced R.sessions (again_session M s) =
    put ∙ ap (λ (t : Timer). replaced R.sessions (record s { timer = t })) served in
    let is =
    ap (λ (m : StateMachineFields). record m { state = record m.state { sessions = c.set_timer.new.self } }) checked
    ∙ ap (λ (xs : List SessionFields). with_lists M (again_in M s) xs R.closed) renewed in
    let mode : s.header.acknowledged ≡ true = ap (λ (t : SessionFields). t.header.acknowledged) (sym c.session.view_is) ∙ c.if-acknowledged.true in
    let other : at_of R.world s ≡ At_waiting → ⊥ = λ (waits : at_of R.world s ≡ At_waiting). search rules in
    let t = c.session-then-acknowledged.result.now in
    let asked : all_naks c.asks.result ≡ Turning.asks R.mib (again_in M s) s =
    c.asks.ensures
    ∙ ap (λ (m : StateMachineFields). Turning.asks m.state.mib m.state.world t) is
    ∙ asks_same R.mib (again_in M s) R.sessions s t (passed R.now s.timer Again) c.args.index e
    (ap (λ (xs : List SessionFields). slice_get xs c.args.index) (sym renewed) ∙ c.session-then-acknowledged.ensures) in
    again_turns M _ c.with_naks.result s (c.requires.due s e) is
    (says_naks M c.with_naks.result c.said-answer.result s c.name-id.result (all_naks c.asks.result)
    c.name-id.ensures c.said-answer.ensures c.with_naks.ensures asked other mode)
