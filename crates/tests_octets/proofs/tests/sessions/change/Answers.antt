use Rattle.std.proofs.Common.{ℕ, zero, suc, ◌^◌, ◌<◌, arith}
use Rattle.std.proofs.Math.Nat.{pow-suc}
use Rattle.tests_octets.proofs.tests.sessions.change.Goals as goal

positive : (n : ℕ) → 0 < 256 ^ n
positive zero = omega arith
positive (suc n) = omega (arith, pow-suc 256 n, positive n)

pub end-requires-clause-sized : goal.end-requires-clause-sized
end-requires-clause-sized c session at = record { condition = omega arith; at_fault = positive session.header.id_len }
