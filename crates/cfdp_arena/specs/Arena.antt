-- What a caller sees of an arena: a list with an entry for each block, its octets where the block is live.
--     Blocks          the blocks of an arena: as many entries as its capacity
--     octets_at       the octets of a block, None where it is free or there is no such block
--     IsLive          the block was taken and not given back
--     octets_of       the octets of a live block
--     live_count      how many blocks are live
--     free_count      the capacity less the number of live blocks
--     all_free        an arena of which no block is live
--     with_block      the arena in which a block is live and has these octets
--     without_block   the arena in which a block is free
use Rattle.std.specs.Prelude.{ℕ, ◌+◌, ◌-◌, List, [], ◌∷◌, length, slice_index_or, slice_set, replicate, Option, Some, None, IsSome, unwrap_or}

abbrev pub Blocks : Type 0
Blocks = List (Option (List ℕ))

abbrev pub octets_at : Blocks → ℕ → Option (List ℕ)
octets_at arena block = slice_index_or arena block None

abbrev pub IsLive : Blocks → ℕ → Type 0
IsLive arena block = IsSome (octets_at arena block)

abbrev pub octets_of : Blocks → ℕ → List ℕ
octets_of arena block = unwrap_or (octets_at arena block) []

abbrev pub live_count : Blocks → ℕ
live_count [] = 0
live_count (Some octets ∷ rest) = live_count rest + 1
live_count (None ∷ rest) = live_count rest

abbrev pub free_count : Blocks → ℕ
free_count arena = length arena - live_count arena

abbrev pub all_free : ℕ → Blocks
all_free capacity = replicate capacity None

abbrev pub with_block : Blocks → ℕ → List ℕ → Blocks
with_block arena block octets = slice_set arena block (Some octets)

abbrev pub without_block : Blocks → ℕ → Blocks
without_block arena block = slice_set arena block None
