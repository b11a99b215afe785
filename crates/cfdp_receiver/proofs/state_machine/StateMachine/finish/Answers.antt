use Rattle.std.proofs.Common.{◌≡◌, ◌⊎◌, sym, ap, subst, ◌∙◌}
use Rattle.std.specs.Prelude.{slice_get}
use Rattle.cfdp_pdus.specs.declared.eof.Eof.{Eof}
use Rattle.cfdp_sessions.specs.Closed.{has_source}
use Rattle.cfdp_sessions.specs.Sessions.{SessionFields, AreDistinct}
use Rattle.cfdp_sessions.specs.declared.session.Stage.TheVariants.{Held, Over, Waiting}
use Rattle.cfdp_transactions.specs.declared.outcome.Outcome.{Outcome}
use Rattle.cfdp_transactions.specs.Writable.{finished_octets}
use Rattle.cfdp_receiver.specs.StateMachine.{StateMachineFields}
use Rattle.cfdp_receiver.specs.code.StateMachine.{Concludes}
use Rattle.cfdp_receiver.specs.Turning.{conclusion_of, has_changed, stage_outcome}
use Rattle.cfdp_receiver.proofs.Concluding.{finish_over, over_stage}
use Rattle.cfdp_receiver.proofs.Places.{place_at}
use Rattle.cfdp_receiver.proofs.state_machine.StateMachine.finish.Goals as goal

pub unreachable-requires : goal.unreachable-requires
unreachable-requires c =
    let s = c.session-session.result.now in
    over_stage c.args.self.now.state s (c.in-Some.ensures.some ∙ c.session-session.ensures)
    (subst (λ (x : SessionFields). ((eof : Eof) × (x.stage ≡ Held eof)) ⊎ (x.stage ≡ Waiting)) c.session.view_is c.in-Held.is)

pub conclude-requires-clause-place : goal.conclude-requires-clause-place
conclude-requires-clause-place c t at =
    let M = c.args.self.now in
    let later = c.later-in-Over.ensures in
    ap (λ (X : StateMachineFields). has_source X.state.closed t.header.source) later
    ∙ place_at M.state c.in-Some.index t c.requires.places (sym (ap (λ (X : StateMachineFields). slice_get X.state.sessions c.in-Some.index) later) ∙ at)

pub returns-in_ok-octets-in-Over-clause-ok : goal.returns-in_ok-octets-in-Over-clause-ok
returns-in_ok-octets-in-Over-clause-ok c =
    let M = c.args.self.now in
    let N = c.conclude.new.self in
    let a = c.conclude.result in
    let s = c.session-session.result.now in
    let ending = c.in-Over.ending in
    let o = stage_outcome s (Over ending) in
    let is = ap (λ (x : SessionFields). x.stage) (sym c.session.view_is) ∙ c.in-Over.is in
    let made = c.outcome_of_ending-outcome.ensures.outcome in
    let at = ap (λ (X : StateMachineFields). slice_get X.state.sessions c.in-Some.index) c.later-in-Over.ensures ∙ c.session-session.ensures in
    let done =
    c.conclude.ensures o (ap (λ (x : Outcome). x.send) made)
    (c.did_change-has_changed.ensures ∙ ap (λ (x : Outcome). has_changed x.finished) made) (c.conclusion_of-conclusion.ensures ∙ ap conclusion_of made)
    (c.in_ok-octets-in-Over.ensures ∙ ap finished_octets made) s at in
    finish_over M N a c.args.now s ending (subst (λ (X : StateMachineFields). AreDistinct X.state.sessions) c.self.view_is c.distinct.ensures) c.requires.known
    (c.in-Some.ensures.some ∙ c.session-session.ensures) is (subst (λ (X : StateMachineFields). Concludes X N a s o) c.later-in-Over.ensures done)
