use Rattle.std.proofs.Common.{arith, false}
use Rattle.cfdp_pdus.specs.Canonical.{finished_field}
use Rattle.cfdp_pdus.proofs.WriteSteps.{pdu_len}
use Rattle.cfdp_transactions.specs.code.FinishedInBuffer.{answered_with}
use Rattle.cfdp_transactions.proofs.finished_in_buffer.find_shortage.Goals as goal

pub returns-then-room-needed-clause-short : goal.returns-then-room-needed-clause-short
returns-then-room-needed-clause-short c =
    let o = answered_with c.args.requests.now c.args.performed c.args.outcome.now in
    omega (arith, pdu_len false o.header (finished_field o.header o.finished), c.field_len-field_len.ensures, c.header_len.ensures, c.from.ensures)

pub returns-else-room-needed-clause-enough : goal.returns-else-room-needed-clause-enough
returns-else-room-needed-clause-enough c =
    let o = answered_with c.args.requests.now c.args.performed c.args.outcome.now in
    omega (
      arith,
      pdu_len false o.header (finished_field o.header o.finished),
      c.field_len-field_len.ensures,
      c.header_len.ensures,
      c.from.ensures,
      c.if-room-needed.false,
    )
