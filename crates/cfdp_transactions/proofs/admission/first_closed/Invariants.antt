use Rattle.std.proofs.Common.{ℕ, ◌<◌}
use Rattle.cfdp_quota.specs.Budget.{IsOpen}
use Rattle.cfdp_transactions.proofs.admission.first_closed.Given as goal

abbrev pub invariant-loop-slot : goal.invariant-loop-slot
invariant-loop-slot l = (slot : ℕ) → slot < l.slot → IsOpen l.quota slot
