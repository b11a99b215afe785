-- What only the proofs of the code need of `Ownership`.
--     blocks_own          blocks side by side in memory
--     the_heap            the handle to the heap, of which there is one value
--     freeing             the right to give a block back to the heap, as its allocator names it
--     rest_own            the room after the blocks, and the right to give all of it back to the allocator
--     region_owns         all that a region owns
use Rattle.std.specs.Prelude.{ℕ, ◌+◌, ◌-◌, ◌*◌, List, length}
use Rattle.std.specs.Global.{Global}
use Rattle.std_heap.specs.contracts.GlobalAllocator.TheImpl.{ghosts}
use base.Fraction.{full_share}
use base.Fml.{Fml, ffalse, fsep, froom}
use mir.Syntax.{Ty, ty_array, ty_int, w8}
use denote.Index.{row}
use denote.RawPtr.{Ptr, block_ptr, null_ptr}
use Rattle.cfdp_arena.specs.Ownership.{Block, fits}

-- how the machine sees a block
abbrev pub block_type : Ty
block_type = ty_array (ty_int w8) 128

abbrev pub blocks_own : ℕ → ℕ → List (List ℕ) → Fml
blocks_own b o xs = row Block full_share xs b o

abbrev pub the_heap : Global
the_heap = record { memory = record { seal = tt } }

-- the right to give back the block at a pointer, which was allocated for a type. It is the same for each handle
abbrev pub freeing : Ty → Ptr → Fml
freeing = ghosts.dealloc_token the_heap

-- the room after count blocks, and the right to give all of it back
abbrev pub rest_own : ℕ → ℕ → ℕ → ℕ → Fml
rest_own room b o count = fsep (froom (ty_array block_type (room - count)) b (count * 128 + o))
    (freeing (ty_array block_type room) (block_ptr b o))

abbrev pub region_owns : Ptr → ℕ → List (List ℕ) → Fml
region_owns (block_ptr b o) room blocks = fsep (fits room blocks)
    (fsep (blocks_own b o blocks) (rest_own room b o (length blocks)))
region_owns null_ptr room blocks = ffalse
