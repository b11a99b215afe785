-- Orders of pieces.
--   neighbour    the index of the other one of two pieces; of an odd number of pieces the last one has none, and this
--                is its own
use Rattle.std.specs.Prelude.{ℕ, ◌+◌, ◌-◌, ◌%◌, ◌==◌, nat_lt, if◌then◌else◌}

abbrev pub neighbour : (count index : ℕ) → ℕ
neighbour count index =
    if index % 2 == 1 then index - 1 else if nat_lt (index + 1) count then index + 1 else index
