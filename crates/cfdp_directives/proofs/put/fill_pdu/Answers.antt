use Rattle.std.proofs.Common.{arith, false}
use Rattle.cfdp_pdus.proofs.WriteSteps.{pdu_len}
use Rattle.cfdp_pdus.proofs.BufferParts.{pdu_filled}
use Rattle.cfdp_directives.proofs.put.fill_pdu.Goals as goal

pub put_header-requires-clause-room : goal.put_header-requires-clause-room
put_header-requires-clause-room c = omega (arith, pdu_len false c.args.header.now c.args.field.now, c.requires.room)

pub put_octets-requires : goal.put_octets-requires
put_octets-requires c =
    omega (arith, pdu_len false c.args.header.now c.args.field.now, c.requires.room, c.put_header.auto.out, c.header_len.ensures)

pub returns : goal.returns
returns c =
    pdu_filled false c.args.header.now c.args.out.now c.put_header.new.out c.put_octets.new.out c.args.field.now _
    c.put_header.ensures c.put_octets.ensures c.header_len.ensures
