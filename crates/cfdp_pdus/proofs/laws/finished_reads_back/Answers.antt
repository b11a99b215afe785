use Rattle.std.proofs.Common.{false}
use Rattle.cfdp_pdus.specs.declared.pdu.Pdu.TheVariants as pdus
use Rattle.cfdp_pdus.specs.Canonical.{finished_field}
use Rattle.cfdp_pdus.proofs.CanonicalSteps.{pdu_spelled, finished_spelled, finished_short}
use Rattle.cfdp_pdus.proofs.laws.finished_reads_back.Goals as goal

pub returns : goal.returns
returns c = λ header finished is sized fits all. pdu_spelled false (pdus.Finished header finished) (finished_field header finished) is
    (finished_short header finished fits) (finished_spelled header finished is sized all)
