use Rattle.std.proofs.Common.{arith, false}
use Rattle.cfdp_pdus.proofs.WriteSteps.{pdu_len}
use Rattle.cfdp_directives.specs.Spelling.{nak_field}
use Rattle.cfdp_directives.proofs.nak.nak_len.Goals as goal

pub returns : goal.returns
returns c = λ scope.
    let h = c.args.header.now in
    omega (
      arith,
      pdu_len false h (nak_field h.large scope c.args.requests.now),
      c.header_len.ensures,
      c.field_len.ensures scope,
      c.from.ensures,
    )
