-- What a slot owns: nothing, or one engine in a block of `Global`, with the right to free it.
use Rattle.std.specs.Prelude.{Option, Some, None}
use Rattle.core.specs.Ptr.{Ptr}
use Rattle.std_alloc.specs.Box.Ownership.{box_owns}
use Rattle.cfdp_arena.specs.code.Ownership.{freeing}
use Rattle.cfdp_transactions.specs.World.{World}
use Rattle.cfdp_entity.specs.contracts.entity.Entity as entity
use base.Fml.{Fml, ftrue}

abbrev pub slot_owns : Ptr → Option World → Fml
slot_owns p None = ftrue
slot_owns p (Some t) = box_owns freeing entity.the_row p t
