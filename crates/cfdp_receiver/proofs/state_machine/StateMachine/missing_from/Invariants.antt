use Rattle.std.specs.Prelude.{nat_le}
use Rattle.std.specs.List.{filter}
use Rattle.std.proofs.Common.{◌≡◌, ◌≤◌, ◌++◌, ℕ, length, drop}
use Rattle.cfdp_receiver.proofs.state_machine.StateMachine.missing_from.Given as goal

abbrev pub invariant-loop-gap : goal.invariant-loop-gap
invariant-loop-gap l = record {
  missing : l.missing.items ++ filter (λ (g : ℕ × ℕ). nat_le l.low g.0) (drop l.gap-index l.gap-items) ≡ filter (λ (g : ℕ × ℕ). nat_le l.low g.0) l.gap-items;
  few : length l.missing.items ≤ l.gap-index;
  all : length l.gap-items ≤ 33;
}
