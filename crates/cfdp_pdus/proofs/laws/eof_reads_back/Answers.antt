use Rattle.std.proofs.Common.{false}
use Rattle.cfdp_pdus.specs.declared.pdu.Pdu.TheVariants as pdus
use Rattle.cfdp_pdus.specs.Canonical.{eof_field}
use Rattle.cfdp_pdus.proofs.CanonicalSteps.{pdu_spelled, eof_spelled, eof_short}
use Rattle.cfdp_pdus.proofs.laws.eof_reads_back.Goals as goal

pub returns : goal.returns
returns c = λ header eof is sized checksum. pdu_spelled false (pdus.Eof header eof) (eof_field header eof) is (eof_short header eof is)
    (eof_spelled header eof sized checksum)
