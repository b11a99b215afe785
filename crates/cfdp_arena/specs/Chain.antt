-- A chain of live blocks: each has the number of the next one in its first two octets, the low one first.
--     chain_in     the first `count` blocks of the chain that begins at this one
use Rattle.std.specs.Prelude.{ℕ, suc, zero, List, [], ◌∷◌}
use Rattle.cfdp_arena.specs.Arena.{Blocks, octets_of}
use Rattle.cfdp_arena.specs.FreeList.{link}

abbrev pub chain_in : Blocks → ℕ → ℕ → List ℕ
chain_in arena zero first = []
chain_in arena (suc count) first = first ∷ chain_in arena count (link (octets_of arena first))
