use Rattle.std.proofs.Common.{arith, false, length, ap}
use Rattle.cfdp_pdus.specs.Canonical.{eof_field}
use Rattle.cfdp_pdus.proofs.WriteSteps.{eof_len}
use Rattle.cfdp_pdus.proofs.WriteSteps.{no_room}
use Rattle.cfdp_pdus.proofs.eof.write_eof.Goals as goal

pub returns-in_err-reserve-clause-room : goal.returns-in_err-reserve-clause-room
returns-in_err-reserve-clause-room c = λ room.
    absurd (no_room false c.args.header.now (eof_field c.args.header.now c.args.eof.now) (length (eof_field c.args.header.now c.args.eof.now)) _ _
    (omega arith) (rw eof_len (omega (
      arith,
      c.in_err-reserve.ensures.full,
      c.header_len.ensures,
      c.size_len-size_len.ensures,
      c.fault_len.ensures.value,
      ap length c.fault_in-fault.ensures.location,
    ))) room)
