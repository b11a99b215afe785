use Rattle.std.specs.Prelude.{slice_get}
use Rattle.std.proofs.Common.{◌≡◌, inl, inr, ◌∷◌, [], true, Bool, List, length, refl, sym, ap, ◌∙◌, arith}
use Rattle.cfdp_sessions.specs.Closed.{with_closed}
use Rattle.cfdp_sessions.specs.Sessions.{SessionFields, session_id, replaced, without_session}
use Rattle.cfdp_transactions.specs.declared.event.Event.TheVariants.{Cancel as CancelCame}
use Rattle.cfdp_transactions.specs.Next.{run}
use Rattle.cfdp_receiver.specs.declared.mib.Handler.TheVariants.{Abandon}
use Rattle.cfdp_receiver.specs.State.{At_held, At_waiting}
use Rattle.cfdp_receiver.specs.Due.{fault_at, handler_at}
use Rattle.cfdp_receiver.specs.Handing.{where_known}
use Rattle.cfdp_receiver.specs.StateMachine.{StateMachineFields}
use Rattle.cfdp_receiver.specs.code.StateMachine.{machine_closed}
use Rattle.cfdp_receiver.specs.Turning as Turning
use Rattle.cfdp_receiver.proofs.LimitsReached.{with_lists, limit_turns, unmoved_waiting, unmoved_held, moved_abandoned, puts_abandoned, indicated_abandoned}
use Rattle.cfdp_receiver.proofs.Places.{place_at}
use Rattle.cfdp_receiver.proofs.state_machine.StateMachine.abandons.Goals as goal
use Rattle.cfdp_receiver.proofs.state_machine.StateMachine.abandons.Goals.{in-Waiting, in_default}

pub close-requires-clause-place : goal.close-requires-clause-place
close-requires-clause-place c t at = place_at c.args.self.now.state c.args.index t c.requires.places at

pub abandon-requires : goal.abandon-requires
abandon-requires c =
    let still =
    ap (λ (m : StateMachineFields). length m.state.sessions) (c.self.view_is ∙ c.hand_cancel.ensures c.session-session.result.now c.session-session.ensures) in
    record { here = omega (arith, still, c.requires.here) }

pub returns : goal.returns
returns c =
    let M = c.args.self.now in
    let N = c.match-at.self in
    let R = M.state in
    let s = c.session-session.result.now in
    let e = c.session-session.ensures in
    let k = c.args.condition in
    let ack = s.header.acknowledged in
    let indicated = indicated_abandoned N s c.name-id.result c.with_indication.result c.said.result k c.name-id.ensures c.said.ensures
    c.with_indication.ensures in
    elim c.match-at.branch [
      | in-Waiting w ↦
          let shut : N ≡ with_lists M R.world (without_session R.sessions (session_id s)) (with_closed R.closed s) =
          w.self-is ∙ w.close.ensures s e
          ∙ ap (λ (b : Bool). machine_closed M (record s { has_changed = b })) (ap (λ (t : SessionFields). t.has_changed) c.session.view_is) in
          elim w.in-Waiting.is [
            | inl is ↦
                limit_turns M N c.with_indication.result s At_waiting k Abandon R.world (without_session R.sessions (session_id s))
                (with_closed R.closed s)
                (c.requires.due s e) (sym is ∙ c.requires.at s e) (c.requires.condition s e ∙ ap (fault_at ack) is)
                (ap (handler_at R.mib ack) (sym is) ∙ c.requires.handler s e)
                shut (unmoved_waiting R.world s Abandon (sym is ∙ c.requires.at s e)) refl refl indicated
            | inr is ↦
                limit_turns M N c.with_indication.result s At_held k Abandon R.world (without_session R.sessions (session_id s))
                (with_closed R.closed s)
                (c.requires.due s e) (sym is ∙ c.requires.at s e) (c.requires.condition s e ∙ ap (fault_at ack) is)
                (ap (handler_at R.mib ack) (sym is) ∙ c.requires.handler s e)
                shut (unmoved_held R.world s Abandon (sym is ∙ c.requires.at s e)) refl refl indicated
          ]
      | in_default w ↦
          let at = c.args.at in
          let V = run R.world (where_known s.stage (CancelCame (session_id s) ∷ [])) in
          let X = w.abandon.new.self in
          let new : SessionFields = record s { is_abandoned = true } in
          let cancelled = w.self.view_is ∙ w.hand_cancel.ensures s e in
          let still = ap (λ (m : StateMachineFields). m.state.sessions) cancelled in
          let put : X ≡ replaced R.sessions new =
          w.abandon.ensures s (ap (λ (xs : List SessionFields). slice_get xs c.args.index) still ∙ e)
          ∙ ap (λ (xs : List SessionFields). replaced xs new) still in
          let parts = puts_abandoned R s k at w.in_default.not-Waiting w.in_default.not-Held in
          limit_turns M N c.with_indication.result s at k Abandon V X R.closed
          (c.requires.due s e) (c.requires.at s e) (c.requires.condition s e) (c.requires.handler s e)
          (w.self-is ∙ ap (λ (m : StateMachineFields). record m { state = record m.state { sessions = X } }) cancelled)
          (moved_abandoned R.world s at)
          (put ∙ sym (ap (λ (p : Turning.Parts). p.sessions) parts))
          (sym (ap (λ (p : Turning.Parts). p.closed) parts))
          (indicated ∙ sym (ap (λ (p : Turning.Parts). p.answer) parts))
    ]
