use Rattle.std.proofs.Common.{arith, false}
use Rattle.cfdp_pdus.proofs.WriteSteps.{pdu_len}
use Rattle.cfdp_directives.proofs.put.pdu_len.Goals as goal

pub returns : goal.returns
returns c = omega (arith, pdu_len false c.args.header.now c.args.field.now, c.header_len.ensures)
