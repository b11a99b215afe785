use Rattle.std.proofs.Common.{arith, true, length, ap}
use Rattle.cfdp_pdus.specs.Values.{FileDataFields}
use Rattle.cfdp_pdus.specs.Canonical.{file_data_field}
use Rattle.cfdp_pdus.proofs.WriteSteps.{file_data_len}
use Rattle.cfdp_pdus.proofs.WriteSteps.{no_room}
use Rattle.cfdp_pdus.proofs.file_data.write_file_data.Goals as goal

pub returns-in_err-reserve-clause-room : goal.returns-in_err-reserve-clause-room
returns-in_err-reserve-clause-room c = λ fits room.
    absurd (no_room true c.args.header.now (file_data_field c.args.header.now.large c.args.file_data.now) c.saturating_add-len.result _ _
    (rw file_data_len (omega (
      arith,
      c.saturating_add-len.ensures,
      c.size_len-size_len.ensures,
      c.len.ensures,
      ap (λ (d : FileDataFields). length d.octets) c.file_data.view_is,
      c.file_data.inside.octets.ok,
    )))
    (omega (arith, c.in_err-reserve.ensures.full, c.header_len.ensures)) room)
