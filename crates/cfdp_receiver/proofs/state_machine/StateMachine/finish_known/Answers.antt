use Rattle.std.proofs.Common.{◌<◌, length, Option, sym, ap, subst, ◌∙◌, arith}
use Rattle.std.specs.Prelude.{slice_get, IfSome}
use Rattle.cfdp_status.specs.declared.transaction.TransactionId.{TransactionId}
use Rattle.cfdp_sessions.specs.Closed.{has_source}
use Rattle.cfdp_sessions.specs.Sessions.{SessionFields, AreDistinct, session_id}
use Rattle.cfdp_transactions.specs.declared.event.Event.TheVariants.{Take}
use Rattle.cfdp_transactions.specs.declared.outcome.Outcome.{Outcome}
use Rattle.cfdp_transactions.specs.CoreFields.{outcome_in}
use Rattle.cfdp_transactions.specs.Next.{next}
use Rattle.cfdp_transactions.specs.Writable.{IsWritable, finished_octets}
use Rattle.cfdp_receiver.specs.StateMachine.{StateMachineFields}
use Rattle.cfdp_receiver.specs.code.StateMachine.{Concludes, at_moment, in_world}
use Rattle.cfdp_receiver.specs.Turning.{conclusion_of, has_changed}
use Rattle.cfdp_receiver.proofs.Concluding.{caused_is, caused_outcome, finish_taken, follows_indicated, known_outcome}
use Rattle.cfdp_receiver.proofs.Endings.{caused_writable, finished_short}
use Rattle.cfdp_receiver.proofs.Places.{place_at}
use Rattle.cfdp_receiver.proofs.state_machine.StateMachine.finish_known.Goals as goal
use Rattle.cfdp_receiver.proofs.state_machine.StateMachine.finish_known.Goals.{After-unwrap_or-outcome-inside}

pub unreachable-requires : goal.unreachable-requires
unreachable-requires c =
    let M = c.args.self.now in
    let s = c.session-session.result.now in
    let none =
    ap (λ (X : StateMachineFields). outcome_in X.state.world (session_id s)) (sym c.self.view_is)
    ∙ ap (λ (n : TransactionId). outcome_in c.self.inside.entity n) (sym c.name-id.ensures) ∙ sym c.in_ok-outcome.ensures.outcome ∙ c.in_default.is in
    known_outcome M.state s (subst (λ (X : StateMachineFields). AreDistinct X.state.sessions) c.self.view_is c.distinct.ensures) c.requires.known
    (c.requires.over ∙ c.session-session.ensures) (c.requires.stage s c.session-session.ensures) none

writable : (c : After-unwrap_or-outcome-inside) → IsWritable (caused_outcome c.session-session.result.now c.in-Some.outcome)
writable c =
    let s = c.session-session.result.now in
    let fits = subst (λ (x : Option Outcome). IfSome x IsWritable) c.in-Some.is c.in_ok-outcome.ensures.writable in
    let small = subst (λ (x : SessionFields). IfSome x.cause (λ condition. condition < 16)) c.session.view_is c.session.invariant.cause in
    caused_writable c.in-Some.outcome s.cause fits small

pub octets-requires : goal.octets-requires
octets-requires c =
    let s = c.session-session.result.now in
    let cause = ap (λ (x : SessionFields). x.cause) c.session.view_is in
    let same =
    caused_is s _ c.in-Some.outcome c.session.inside.cause c.unwrap_or-outcome-inside.result c.outcome-2.view_is cause c.unwrap_or-outcome-inside.ensures in
    subst IsWritable (sym same) (writable (goal.at.octets-requires c).After-unwrap_or-outcome-inside)

pub conclude-requires : goal.conclude-requires
conclude-requires c =
    let s = c.session-session.result.now in
    let cause = ap (λ (x : SessionFields). x.cause) c.session.view_is in
    let same =
    caused_is s _ c.in-Some.outcome c.session.inside.cause c.unwrap_or-outcome-inside.result c.outcome-2.view_is cause c.unwrap_or-outcome-inside.ensures in
    let octets = c.in_ok-octets.ensures ∙ ap finished_octets same in
    let within = subst (λ (X : StateMachineFields). c.args.index < length X.state.sessions) (sym c.self.view_is) c.requires.here in
    let short = finished_short (caused_outcome s c.in-Some.outcome) (writable (goal.at.conclude-requires c).After-unwrap_or-outcome-inside) in
    record {
      here = subst (λ (X : StateMachineFields). c.args.index < length X.state.sessions) (sym c.later.ensures) within;
      place = λ t at.
          ap (λ (X : StateMachineFields). has_source X.state.closed t.header.source) c.later.ensures
          ∙ ap (λ (X : StateMachineFields). has_source X.state.closed t.header.source) c.self.view_is
          ∙ place_at c.args.self.now.state c.args.index t c.requires.places
          (sym (ap (λ (X : StateMachineFields). slice_get X.state.sessions c.args.index) c.later.ensures
          ∙ ap (λ (X : StateMachineFields). slice_get X.state.sessions c.args.index) c.self.view_is) ∙ at);
      short = omega (arith, c.in_ok-octets.octets.ok.0, ap length octets, short);
    }

pub returns : goal.returns
returns c =
    let M = c.args.self.now in
    let N = c.conclude.new.self in
    let V = c.hand_out.new.self in
    let a = c.conclude.result in
    let s = c.session-session.result.now in
    let made = c.in-Some.outcome in
    let v = c.self.view_is in
    let cause = ap (λ (x : SessionFields). x.cause) c.session.view_is in
    let same = caused_is s _ made c.session.inside.cause c.unwrap_or-outcome-inside.result c.outcome-2.view_is cause c.unwrap_or-outcome-inside.ensures in
    let is_made =
    sym c.in-Some.is ∙ c.in_ok-outcome.ensures.outcome ∙ ap (λ (n : TransactionId). outcome_in c.self.inside.entity n) c.name-id.ensures
    ∙ ap (λ (X : StateMachineFields). outcome_in X.state.world (session_id s)) v in
    let indicated =
    ap (λ (X : StateMachineFields). next X.state.world (Take (session_id s))) (sym v)
    ∙ ap (λ (n : TransactionId). next c.self.inside.entity (Take n)) (sym c.name-id.ensures)
    ∙ follows_indicated c.self.inside.entity (Take c.name-id.result) c.hand_out.result V c.hand_out.ensures.follows c.in_default-hand_out.not-Memory in
    let at =
    ap (λ (X : StateMachineFields). slice_get X.state.sessions c.args.index) c.later.ensures ∙ ap
    (λ (X : StateMachineFields). slice_get X.state.sessions c.args.index) v
    ∙ c.session-session.ensures in
    let done =
    c.conclude.ensures (caused_outcome s made) (ap (λ (x : Outcome). x.send) c.outcome-2.view_is)
    (c.did_change-has_changed.ensures ∙ ap (λ (x : Outcome). has_changed x.finished) same) (c.conclusion_of-conclusion.ensures ∙ ap conclusion_of same)
    (c.in_ok-octets.ensures ∙ ap finished_octets same) s at in
    let later = c.later.ensures ∙ ap (λ (X : StateMachineFields). at_moment c.args.now (in_world V X)) v in
    record {
      ok = finish_taken M N a c.args.now s made V c.hand_out.result (c.requires.over ∙ c.session-session.ensures) (c.requires.stage s c.session-session.ensures)
          is_made indicated
          (subst (λ (X : StateMachineFields). Concludes X N a s (caused_outcome s made)) later done);
      unchanged = tt;
    }
