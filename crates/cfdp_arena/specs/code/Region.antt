-- What a region becomes while some of its blocks are lent.
--     LendsBlock      the region ends with the block set to what was last written through the borrow
--     LendsFront      the region ends with what was last written through the borrow, and the blocks after it
use Rattle.std.specs.Prelude.{ℕ, List, ◌++◌, drop, slice_set}
use Rattle.std.specs.Borrow.{Lends, MutBor, Fml, Array}
use Rattle.cfdp_arena.specs.Ownership.{Block}
use Rattle.cfdp_arena.specs.declared.region.Region.{Region}
use Rattle.cfdp_arena.specs.contracts.region.Region.{the_row}

abbrev pub with_block_octets : Region → ℕ → List ℕ → Region
with_block_octets region number octets = record region { blocks = slice_set region.blocks number octets }

abbrev pub LendsBlock : MutBor Region → ℕ → MutBor (List ℕ) → Fml
LendsBlock region number octets = Lends the_row Block region octets (with_block_octets region.now number)

abbrev pub with_front : Region → ℕ → List (List ℕ) → Region
with_front region count front = record region { blocks = front ++ drop count region.blocks }

abbrev pub LendsFront : MutBor Region → ℕ → MutBor (List (List ℕ)) → Fml
LendsFront region count front = Lends the_row (Array Block 0) region front (with_front region.now count)
