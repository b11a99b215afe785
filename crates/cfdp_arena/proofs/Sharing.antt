-- A `&` to a region is made where one to its blocks is, and a region names no thread. Assumes `Logic`.
use Rattle.std.proofs.Common.{ℕ, ◌+◌, List, [], ◌∷◌}
use seplogic.Ra.Ura.{Ura}
use base.Fraction.{full_share}
use base.Fml.{Lft, ftrue, ffalse}
use base.Shift.{Keyless}
use mir.Syntax.{ty_array}
use contract.BorrowLft.{⊑_static}
use types.Logic.{Logic}
use denote.Builtin.{u8}
use denote.Memory.{part_at, shared_of}
use denote.RawPtr.{Ptr, block_ptr, null_ptr}
use denote.Sharing.{ShrLaws, said}
use denote.SharingLaws.{beside_shr_laws, nothing_shr_laws, said_shr_laws}
use denote.Shares.{Shares-less}
use denote.Param.Shared.{Sharable, copy_shared}
use denote.Param.Send.{IsSend, array_send, part_keyless, sendable}
use denote.Struct.Field.{array_field, u8-field}
use denote.Struct.Laws.{array_copy, u8-copy}
use denote.Struct.Lending.{Lends, Lends-both, Lends-first, Lends-nothing, Lends-said, Lends-false}
use Rattle.std.proofs.Crossing.{frees}
use Rattle.cfdp_arena.specs.Ownership.{Block, blocks_lend, fits, region_lends}
use Rattle.cfdp_arena.specs.code.Ownership.{block_type, blocks_own, the_heap, region_owns}

pub block_shared : Sharable (array_field u8-field 128)
block_shared = copy_shared (array_field u8-field 128) (array_copy u8-field u8-copy 128)

blocks_lend_laws : (b o : ℕ) (xs : List (List ℕ)) → ShrLaws (blocks_lend b o xs)
blocks_lend_laws b o [] = nothing_shr_laws
blocks_lend_laws b o (x ∷ xs) = beside_shr_laws _ _ (block_shared.shr_laws x b o) (blocks_lend_laws b (o + 128) xs)

pub region_lends_laws : (p : Ptr) (room : ℕ) (xs : List (List ℕ)) → ShrLaws (region_lends p room xs)
region_lends_laws (block_ptr b o) room xs = beside_shr_laws _ _ (said_shr_laws (fits room xs) (tt, tt)) (blocks_lend_laws b o xs)
region_lends_laws null_ptr room xs = said_shr_laws ffalse tt

module _ {M : Type 1} {𝓤 : Ura M} (𝓛 : Logic 𝓤) (l : Lft) where
  Lends-blocks : (b o : ℕ) (xs : List (List ℕ)) → Lends 𝓛 (blocks_own b o xs) (blocks_lend b o xs) l
  Lends-blocks b o [] = Lends-nothing 𝓛 ftrue l
  Lends-blocks b o (x ∷ xs) = Lends-both 𝓛 (part_at Block full_share x b o) (blocks_own b (o + 128) xs) (shared_of Block x b o) (blocks_lend b (o + 128) xs) l
      (λ κ ts. Shares-less 𝓛 Block Block.lives l (⊑_static l) (block_shared.shares M 𝓤 𝓛) x κ ts b o) (Lends-blocks b (o + 128) xs)

  pub Lends-region : (p : Ptr) (room : ℕ) (xs : List (List ℕ)) → Lends 𝓛 (region_owns p room xs) (region_lends p room xs) l
  Lends-region (block_ptr b o) room xs = Lends-both 𝓛 (fits room xs) _ (said (fits room xs)) (blocks_lend b o xs) l (Lends-said 𝓛 (fits room xs) (tt, tt) l)
      (Lends-first 𝓛 (blocks_own b o xs) _ (blocks_lend b o xs) l (Lends-blocks b o xs))
  Lends-region null_ptr room xs = Lends-false 𝓛 (said ffalse) l

block-send : IsSend Block
block-send = array_send u8 128 (search sendable)

blocks-keyless : (b o : ℕ) (xs : List (List ℕ)) → Keyless (blocks_own b o xs)
blocks-keyless b o [] = tt
blocks-keyless b o (x ∷ xs) = (part_keyless Block block-send full_share x b o, blocks-keyless b (o + 128) xs)

pub region-keyless : (p : Ptr) (room : ℕ) (xs : List (List ℕ)) → Keyless (region_owns p room xs)
region-keyless (block_ptr b o) room xs = ((tt, tt), (blocks-keyless b o xs, (tt, frees.frees the_heap (ty_array block_type room) (block_ptr b o))))
region-keyless null_ptr room xs = tt
