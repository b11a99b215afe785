use Rattle.std.proofs.Common.{◌≡◌, ◌<◌, ◌^◌, ◌||◌, ℕ, drop}
use Rattle.cfdp_receiver.specs.Due.{first_due}
use Rattle.cfdp_receiver.specs.StateMachine.{has_come, is_any_due}
use Rattle.cfdp_receiver.proofs.state_machine.StateMachine.deadline.Given as goal

-- a timer is due: one of the sessions that were gone over, or one of the rest
abbrev pub invariant-loop-session : goal.invariant-loop-session
invariant-loop-session l =
    (now : ℕ) → now < 2 ^ 64 →
    is_any_due (first_due (record l.self.state { now = now }) l.self.state.sessions)
    ≡ (has_come l.earliest now || is_any_due (first_due (record l.self.state { now = now }) (drop l.session-index l.self.state.sessions)))
