-- What an arena ends as, once a `&mut` to a block's octets has ended.
--     LendsOctets     the block ends with what was last written through the borrow, and every other block as it was
use Rattle.std.specs.Prelude.{ℕ, List}
use Rattle.std.specs.Borrow.{Lends, MutBor, Fml, Array, u8}
use Rattle.cfdp_arena.specs.Arena.{Blocks, with_block}
use Rattle.cfdp_arena.specs.contracts.arena.Arena.{the_row}

abbrev pub LendsOctets : MutBor Blocks → ℕ → MutBor (List ℕ) → Fml
LendsOctets arena block octets = Lends the_row (Array u8 128) arena octets (with_block arena.now block)
