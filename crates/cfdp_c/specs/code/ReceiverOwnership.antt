-- What a slot for a receiver owns: nothing, or one receiver in a block of `Global`, with the right to free it.
use Rattle.std.specs.Prelude.{Option, Some, None}
use Rattle.core.specs.Ptr.{Ptr}
use Rattle.std_alloc.specs.Box.Ownership.{box_owns}
use Rattle.cfdp_arena.specs.code.Ownership.{freeing}
use Rattle.cfdp_reception.specs.Reception.{ReceptionFields}
use Rattle.cfdp_reception.specs.contracts.reception.Reception as reception
use base.Fml.{Fml, ftrue}

abbrev pub receiver_owns : Ptr → Option ReceptionFields → Fml
receiver_owns p None = ftrue
receiver_owns p (Some t) = box_owns freeing reception.the_row p t
