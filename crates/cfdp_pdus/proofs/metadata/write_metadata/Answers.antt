use Rattle.std.proofs.Common.{arith, false}
use Rattle.cfdp_pdus.specs.Canonical.{metadata_field}
use Rattle.cfdp_pdus.proofs.WriteSteps.{no_room}
use Rattle.cfdp_pdus.proofs.metadata.write_metadata.Goals as goal

pub returns-in_err-reserve-clause-room : goal.returns-in_err-reserve-clause-room
returns-in_err-reserve-clause-room c = λ fits room.
    absurd (no_room false c.args.header.now (metadata_field c.args.header.now.large c.args.metadata.now) c.field_len-len.result _ _
    (omega (arith, c.field_len-len.ensures)) (omega (arith, c.in_err-reserve.ensures.full, c.header_len.ensures)) room)
