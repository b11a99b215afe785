-- Received octets, as the ranges in which they lie and the staged list that holds them.
--     is_in i ranges            an offset is in one of the ranges; a range is a start and an end, which it does not
--                               hold
--     received_in ranges xs     what was received, where the octets of xs lie in these ranges
--     with_range a b ranges     the ranges once a to b is there too: what it touches becomes one with it
--     between at ranges limit   the ranges between these, from `at` up to the limit
use Rattle.std.specs.Prelude.{ℕ, suc, Bool, ◌&&◌, if◌then◌else◌, nat_lt, nat_le, min, max, List, [], ◌∷◌, Some, None}
use Rattle.std.specs.List.{list_any}
use Rattle.cfdp_transactions.specs.Received.{Received}

abbrev pub Range : Type 0
Range = ℕ × ℕ

abbrev pub Ranges : Type 0
Ranges = List Range

abbrev pub is_in : ℕ → Ranges → Bool
is_in i ranges = list_any (λ (r : ℕ × ℕ). nat_le r.0 i && nat_lt i r.1) ranges

-- of a list that begins at an offset
abbrev pub received_from : ℕ → Ranges → List ℕ → Received
received_from at ranges [] = []
received_from at ranges (x ∷ xs) = (if is_in at ranges then Some x else None) ∷ received_from (suc at) ranges xs

abbrev pub received_in : Ranges → List ℕ → Received
received_in ranges xs = received_from 0 ranges xs

abbrev pub with_range : ℕ → ℕ → Ranges → Ranges
with_range a b [] = (a, b) ∷ []
with_range a b (r ∷ rs) =
    if nat_lt r.1 a then r ∷ with_range a b rs
    else if nat_lt b r.0 then (a, b) ∷ r ∷ rs
    else with_range (min a r.0) (max b r.1) rs

-- one range, unless it is empty
abbrev pub range : ℕ → ℕ → Ranges → Ranges
range a b following = if nat_lt a b then (a, b) ∷ following else following

abbrev pub between : ℕ → Ranges → ℕ → Ranges
between at [] limit = range at limit []
between at (r ∷ rs) limit = range at r.0 (between r.1 rs limit)
