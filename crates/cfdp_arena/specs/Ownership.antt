-- What a region owns, and what a `&` to it lends.
--     Block               a block of 128 octets, as the logic names its type
--     fits                the blocks are no more than there is room for
--     blocks_lend, region_lends      what a `&` reaches: the blocks
use Rattle.std.specs.Prelude.{ℕ, ◌+◌, ◌*◌, ◌^◌, List, [], ◌∷◌, length}
use Rattle.std.specs.Borrow.{Array, u8}
use base.Fml.{Lft, Fml, ffalse, fsep, flt}
use denote.RattleType.{RattleType}
use denote.Memory.{shared_of}
use denote.Sharing.{nothing, said, beside}
use denote.RawPtr.{Ptr, block_ptr, null_ptr}

abbrev pub Block : RattleType
Block = Array u8 128

-- the blocks fill at most the room, whose octets number less than 2 ^ 63
abbrev pub fits : ℕ → List (List ℕ) → Fml
fits room blocks = fsep (flt (length blocks) (room + 1)) (flt (room * 128) (2 ^ 63))

abbrev pub blocks_lend : ℕ → ℕ → List (List ℕ) → Lft → Fml
blocks_lend b o [] = nothing
blocks_lend b o (x ∷ xs) = beside (shared_of Block x b o) (blocks_lend b (o + 128) xs)

abbrev pub region_lends : Ptr → ℕ → List (List ℕ) → Lft → Fml
region_lends (block_ptr b o) room blocks = beside (said (fits room blocks)) (blocks_lend b o blocks)
region_lends null_ptr room blocks = said ffalse
