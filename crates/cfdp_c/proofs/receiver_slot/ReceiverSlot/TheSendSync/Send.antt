-- A slot may go to another thread, as its receiver may. Assumes `Logic`.
use Rattle.std.specs.Prelude.{Option, Some, None}
use Rattle.cfdp_reception.specs.Reception.{ReceptionFields}
use Rattle.cfdp_reception.specs.contracts.reception.Reception as T
use Rattle.cfdp_reception.proofs.reception.Reception.TheSendSync.{the_send}
use Rattle.std_alloc.proofs.SendSync.{quiet, lies}
use Rattle.std.proofs.Crossing.{frees}
use Rattle.cfdp_arena.specs.code.Ownership.{the_heap}
use Rattle.cfdp_c.specs.code.ReceiverOwnership.{receiver_owns}
use Rattle.cfdp_c.specs.contracts.receiver_slot.ReceiverSlot as C
use base.Shift.{Keyless}
use denote.Memory.{lone}
use denote.Param.Send.{IsSend, AllSend, owning_send, struct_send, sendable}
use denote.RawPtr.{Ptr}
use denote.Struct.Struct.{exits_of}
use denote.Struct.Owning.{shape, fields, to}
use mir.Raw.{raw}

slot-keyless : (p : Ptr) (e : Option ReceptionFields) → Keyless (receiver_owns p e)
slot-keyless p None = tt
slot-keyless p (Some t) = (lies T.the_row the_send p t, frees.frees the_heap (raw (lone (T.the_row).mir)) p)

pub send : IsSend C.the_row
send =
    let O = C.the_type in let all : AllSend (fields O) = (search sendable, tt) in
    owning_send O all (λ d. slot-keyless d.at d.receiver) (λ k. quiet (to O) (exits_of k (fields O)) ((struct_send (shape O) all).leaving k))
