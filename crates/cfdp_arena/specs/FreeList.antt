-- How an arena keeps its free blocks: a chain of block numbers, whose links are in the free blocks.
--     link            the number that a free block leads to
--     vacated         entries of an arena, with those of a chain made free
use Rattle.std.specs.Prelude.{ℕ, ◌+◌, ◌*◌, List, [], ◌∷◌, slice_index_or, slice_set, None}
use Rattle.cfdp_arena.specs.Arena.{Blocks}

-- two octets, the low one first
abbrev pub link : List ℕ → ℕ
link block = slice_index_or block 0 0 + 256 * slice_index_or block 1 0

abbrev pub vacated : List ℕ → Blocks → Blocks
vacated [] arena = arena
vacated (block ∷ rest) arena = slice_set (vacated rest arena) block None
