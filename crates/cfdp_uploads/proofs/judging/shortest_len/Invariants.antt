use Rattle.std.proofs.Common.{ℕ, ◌<◌, ◌≤◌, ◌^◌}
use Rattle.cfdp_uploads.proofs.judging.shortest_len.Given as goal

abbrev pub invariant-loop-len : goal.invariant-loop-len
invariant-loop-len l = (less : ℕ) → 1 ≤ less → less < l.len → 256 ^ less ≤ l.number
