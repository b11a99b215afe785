-- All that transactions can have left to be done.
--     most_settled              how many items and outcomes there are at most
use Rattle.std.specs.Prelude.{ℕ}

-- of each of 64 transactions an install, 64 requests and an outcome
abbrev pub most_settled : ℕ
most_settled = 4224
