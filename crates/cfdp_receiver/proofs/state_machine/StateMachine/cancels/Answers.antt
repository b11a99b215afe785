use Rattle.std.specs.Prelude.{slice_get}
use Rattle.std.proofs.Common.{◌≡◌, ◌∷◌, [], false, Bool, List, length, Some, refl, sym, ap, ◌∙◌, arith}
use Rattle.cfdp_status.specs.declared.transaction.TransactionId.{TransactionId}
use Rattle.cfdp_sessions.specs.Closed.{with_closed}
use Rattle.cfdp_sessions.specs.Sessions.{SessionFields, session_id, replaced, without_session}
use Rattle.cfdp_transactions.specs.declared.event.Event.TheVariants.{Cancel as CancelCame, Check as CheckCame}
use Rattle.cfdp_transactions.specs.declared.reply.Reply.{Reply}
use Rattle.cfdp_transactions.specs.Next.{next, run}
use Rattle.cfdp_transactions.specs.World.{World}
use Rattle.cfdp_receiver.specs.declared.mib.Handler.TheVariants.{Cancel}
use Rattle.cfdp_receiver.specs.declared.indication.Word.TheVariants as words
use Rattle.cfdp_receiver.specs.State.{At_held, At_awaiting, At_waiting}
use Rattle.cfdp_receiver.specs.Due.{fault_at, handler_at}
use Rattle.cfdp_receiver.specs.Handing.{makes_checks, where_known}
use Rattle.cfdp_receiver.specs.StateMachine.{StateMachineFields}
use Rattle.cfdp_receiver.specs.code.StateMachine.{machine_closed}
use Rattle.cfdp_receiver.specs.Turning as Turning
use Rattle.cfdp_receiver.proofs.LimitsReached.{fault_small, indicated_fault, limit_turns, with_lists, unmoved_held, unmoved_waiting, moved_cancelled, moved_checked, no_checks, acknowledged_none, awaits, puts_cancelled, indicated_word}
use Rattle.cfdp_receiver.proofs.Places.{place_at}
use Rattle.cfdp_receiver.proofs.state_machine.StateMachine.cancels.Goals as goal
use Rattle.cfdp_receiver.proofs.state_machine.StateMachine.cancels.Goals.{in-Held, in-Awaiting, in_default, in_default-via-in-Awaiting+else-not-session, in_default-via-in_default}

pub close-requires-clause-place : goal.close-requires-clause-place
close-requires-clause-place c t at = place_at c.args.self.now.state c.args.index t c.requires.places at

pub ends_here-requires-clause-condition : goal.ends_here-requires-clause-condition
ends_here-requires-clause-condition c =
    let s = c.session-session.result.now in
    omega (arith, c.requires.condition s c.session-session.ensures, fault_small s.header.acknowledged c.args.at)

pub set_cause-requires-clause-condition : goal.set_cause-requires-clause-condition
set_cause-requires-clause-condition c =
    let s = c.session-session.result.now in
    omega (arith, c.requires.condition s c.session-session.ensures, fault_small s.header.acknowledged c.args.at)

pub set_cause-requires-in_default-clause-here : goal.set_cause-requires-in_default-clause-here
set_cause-requires-in_default-clause-here c =
    let cancelled = c.self-in_default.view_is ∙ c.hand_cancel.ensures c.session-session.result.now c.session-session.ensures in
    let still = ap (λ (m : StateMachineFields). length m.state.sessions) cancelled in
    omega (arith, still, c.requires.here)

pub set_cause-requires-in_default-clause-condition :
    goal.set_cause-requires-in_default-clause-condition
set_cause-requires-in_default-clause-condition c =
    let s = c.session-session.result.now in
    omega (arith, c.requires.condition s c.session-session.ensures, fault_small s.header.acknowledged c.args.at)

pub returns-in-Waiting : goal.returns-in-Waiting
returns-in-Waiting c =
    let M = c.args.self.now in
    let N = c.close.new.self in
    let R = M.state in
    let s = c.session-session.result.now in
    let e = c.session-session.ensures in
    let k = c.args.condition in
    let ack = s.header.acknowledged in
    let is = c.in-Waiting.is in
    let shut : N ≡ with_lists M R.world (without_session R.sessions (session_id s)) (with_closed R.closed s) =
    c.close.ensures s e
    ∙ ap (λ (b : Bool). machine_closed M (record s { has_changed = b })) (ap (λ (t : SessionFields). t.has_changed) c.session.view_is) in
    let indicated = indicated_fault N s c.name-id.result c.with_indication.result c.said.result k c.name-id.ensures c.said.ensures c.with_indication.ensures in
    limit_turns M N c.with_indication.result s At_waiting k Cancel R.world (without_session R.sessions (session_id s)) (with_closed R.closed s)
    (c.requires.due s e) (sym is ∙ c.requires.at s e) (c.requires.condition s e ∙ ap (fault_at ack) is)
    (ap (handler_at R.mib ack) (sym is) ∙ c.requires.handler s e)
    shut (unmoved_waiting R.world s Cancel (sym is ∙ c.requires.at s e)) refl refl indicated

pub returns : goal.returns
returns c =
    let M = c.args.self.now in
    let N = c.match-at.self in
    let R = M.state in
    let s = c.session-session.result.now in
    let e = c.session-session.ensures in
    let k = c.args.condition in
    let at = c.args.at in
    let ack = s.header.acknowledged in
    let new : SessionFields = record s { cause = Some k } in
    let mode = ap (λ (t : SessionFields). t.header.acknowledged) (sym c.session.view_is) in
    let indicated = indicated_word N s c.name-id.result c.said-2.result words.Faulted c.name-id.ensures c.said-2.ensures in
    elim c.match-at.branch [
      | in-Held w ↦
          let is = w.in-Held.is in
          limit_turns M N c.said-2.result s At_held k Cancel R.world (replaced R.sessions (Turning.over_here R s k)) R.closed
          (c.requires.due s e) (sym is ∙ c.requires.at s e) (c.requires.condition s e ∙ ap (fault_at ack) is)
          (ap (handler_at R.mib ack) (sym is) ∙ c.requires.handler s e)
          (w.self-is ∙ w.ends_here.ensures s e) (unmoved_held R.world s Cancel (sym is ∙ c.requires.at s e)) refl refl indicated
      | in-Awaiting w ↦
          let is = w.in-Awaiting.is in
          let made = w.in-Awaiting.field-0 in
          let V = w.check.new.self in
          let X = w.set_cause.new.self in
          let still = ap (λ (m : StateMachineFields). m.state.sessions) c.self.view_is in
          let put : X ≡ replaced R.sessions new =
          w.set_cause.ensures s (ap (λ (xs : List SessionFields). slice_get xs c.args.index) still ∙ e)
          ∙ ap (λ (xs : List SessionFields). replaced xs new) still in
          let checked : V ≡ (next R.world (CheckCame (session_id s))).0 =
          ap (λ (p : World × Reply). p.0) (sym w.check.ensures)
          ∙ ap (λ (W : World). (next W (CheckCame c.name-id.result)).0) (ap (λ (m : StateMachineFields). m.state.world) c.self.view_is)
          ∙ ap (λ (id : TransactionId). (next R.world (CheckCame id)).0) c.name-id.ensures in
          limit_turns M N c.said-2.result s (At_awaiting made) k Cancel V X R.closed
          (c.requires.due s e) (sym is ∙ c.requires.at s e) (c.requires.condition s e ∙ ap (fault_at ack) is)
          (ap (handler_at R.mib ack) (sym is) ∙ c.requires.handler s e)
          (w.self-is ∙ ap (λ (m : StateMachineFields). record m { state = record m.state { world = V; sessions = X } }) c.self.view_is)
          (checked ∙ moved_checked R.world s made (mode ∙ w.if-not-session.true) (sym is ∙ c.requires.at s e))
          put refl indicated
      | in_default w ↦
          let V = run R.world (where_known s.stage (CancelCame (session_id s) ∷ [])) in
          let X = w.set_cause-in_default.new.self in
          let cancelled = w.self-in_default.view_is ∙ w.hand_cancel.ensures s e in
          let still = ap (λ (m : StateMachineFields). m.state.sessions) cancelled in
          let put : X ≡ replaced R.sessions new =
          w.set_cause-in_default.ensures s (ap (λ (xs : List SessionFields). slice_get xs c.args.index) still ∙ e)
          ∙ ap (λ (xs : List SessionFields). replaced xs new) still in
          let which : (makes_checks ack at ≡ false) × ((at ≡ At_waiting → ⊥) × (at ≡ At_held → ⊥)) =
          elim w.in_default.branch [
            | in_default-via-in-Awaiting+else-not-session v ↦
                (acknowledged_none ack at (mode ∙ v.if-not-session.false), awaits at v.in-Awaiting.field-0 v.in-Awaiting.is)
            | in_default-via-in_default v ↦ (no_checks ack at v.in_default.not-Awaiting, (v.in_default.not-Waiting, v.in_default.not-Held))
          ] in
          let parts = puts_cancelled R s k at which.1.0 which.1.1 in
          limit_turns M N c.said-2.result s at k Cancel V X R.closed
          (c.requires.due s e) (c.requires.at s e) (c.requires.condition s e) (c.requires.handler s e)
          (w.self-is ∙ ap (λ (m : StateMachineFields). record m { state = record m.state { sessions = X } }) cancelled)
          (moved_cancelled R.world s at which.0)
          (put ∙ sym (ap (λ (p : Turning.Parts). p.sessions) parts))
          (sym (ap (λ (p : Turning.Parts). p.closed) parts))
          (indicated ∙ sym (ap (λ (p : Turning.Parts). p.answer) parts))
    ]
