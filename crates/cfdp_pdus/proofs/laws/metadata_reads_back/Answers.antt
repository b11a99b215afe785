use Rattle.std.proofs.Common.{false}
use Rattle.cfdp_pdus.specs.declared.pdu.Pdu.TheVariants as pdus
use Rattle.cfdp_pdus.specs.Canonical.{metadata_field}
use Rattle.cfdp_pdus.proofs.CanonicalSteps.{pdu_spelled, metadata_spelled, metadata_short}
use Rattle.cfdp_pdus.proofs.laws.metadata_reads_back.Goals as goal

pub returns : goal.returns
returns c = λ header metadata is sized fits all. pdu_spelled false (pdus.Metadata header metadata) (metadata_field header.large metadata) is
    (metadata_short header.large metadata fits) (metadata_spelled header metadata sized all)
