-- Marks of octets, as a vector of them makes.
--     marks_of octets i n     a bit for each of the n octets from the index i on, the first one the lowest: set where
--                             it is a separator
use Rattle.std.specs.Prelude.{ℕ, List, map, take, drop}
use Rattle.std.specs.Simd.Lanes.{mask_l}
use Rattle.cfdp_paths.specs.Paths.{is_separator}

abbrev pub marks_of : List ℕ → ℕ → ℕ → ℕ
marks_of octets i n = mask_l (map is_separator (take n (drop i octets)))
