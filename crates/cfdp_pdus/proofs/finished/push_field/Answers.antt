use Rattle.std.proofs.Common.{List, ap, length, arith}
use Rattle.std.specs.List.{flat_map}
use Rattle.cfdp_tlv.specs.Values.{ResponseFields}
use Rattle.cfdp_pdus.specs.Values.{FinishedFields}
use Rattle.cfdp_pdus.specs.Canonical.{fault_location, response_field}
use Rattle.cfdp_pdus.proofs.WriteSteps.{finished_len}
use Rattle.cfdp_pdus.proofs.finished.push_field.Goals as goal

pub push_fault-requires-clause-room : goal.push_fault-requires-clause-room
push_fault-requires-clause-room c =
    let header = c.args.header.now in
    omega (
      arith,
      finished_len header c.args.finished.now,
      ap (λ (f : FinishedFields). length (flat_map response_field f.responses)) c.finished.view_is,
      ap (λ (f : FinishedFields). length (fault_location header.id_len f.fault)) c.finished.view_is,
      ap (λ (xs : List ResponseFields). length (flat_map response_field xs)) c.deref.ensures.value,
      c.requires.room,
      c.push_reserved.ensures.len,
      c.push_reserved-2.ensures.len,
      c.push_reserved.ensures.capacity,
      c.push_reserved-2.ensures.capacity,
      c.push_fields.ensures.len,
      c.push_fields.ensures.capacity,
    )
