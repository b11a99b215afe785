-- What only the proofs of the code need of `FreeList`.
--     free_chain      the first count blocks of the chain that begins at a block
--     arena_view      what a caller sees of the blocks that were made, the number of those on the list and the first of
--                     these
--     whole_view      the same of all blocks: one that is not made yet is free
--     IsAbsent        a number that is not on a chain
--     AreDistinctBlocks  numbers of blocks, none of them twice
--     IsSoundList     what holds of the list
--     IsArena         what holds of the fields of an arena
use Rattle.std.specs.Prelude.{◌≡◌, ◌≢◌, ℕ, suc, zero, ◌-◌, ◌<◌, ◌≤◌, List, [], ◌∷◌, ◌++◌, length, map, replicate, slice_index_or, Some, None}
use Rattle.cfdp_arena.specs.Arena.{Blocks}
use Rattle.cfdp_arena.specs.FreeList.{link, vacated}

abbrev pub free_chain : List (List ℕ) → ℕ → ℕ → List ℕ
free_chain blocks zero first = []
free_chain blocks (suc count) first = first ∷ free_chain blocks count (link (slice_index_or blocks first []))

unfoldable pub arena_view : List (List ℕ) → ℕ → ℕ → Blocks
arena_view blocks free head = vacated (free_chain blocks free head) (map Some blocks)

unfoldable pub whole_view : List (List ℕ) → ℕ → ℕ → ℕ → Blocks
whole_view blocks listed head capacity = arena_view blocks listed head ++ replicate (capacity - length blocks) None

abbrev pub IsAbsent : ℕ → List ℕ → Type 0
IsAbsent block [] = Unit {0}
IsAbsent block (other ∷ rest) = (block ≢ other) × IsAbsent block rest

abbrev pub AreDistinctBlocks : ℕ → List ℕ → Type 0
AreDistinctBlocks capacity [] = Unit {0}
AreDistinctBlocks capacity (block ∷ rest) = (block < capacity) × (IsAbsent block rest) × AreDistinctBlocks capacity rest

pub record IsSoundList (blocks : List (List ℕ)) (free head : ℕ) : Type 0 where
  -- the blocks on the list are blocks that were made, each once
  pub apart : AreDistinctBlocks (length blocks) (free_chain blocks free head)
  pub small : length blocks ≤ 65536
  -- the first free block's number fits a link
  pub fits : head < 65536

pub record IsArena (blocks : List (List ℕ)) (listed head made capacity room : ℕ) : Type 0 where
  pub list : IsSoundList blocks listed head
  -- the blocks that were made are the first ones
  pub count : made ≡ length blocks
  pub within : made ≤ capacity
  -- the memory has room for all
  pub all : capacity ≡ room
  pub some : 0 < capacity
  pub most : capacity ≤ 65536
