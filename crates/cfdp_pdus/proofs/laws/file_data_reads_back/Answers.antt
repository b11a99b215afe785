use Rattle.std.proofs.Common.{true}
use Rattle.cfdp_pdus.specs.declared.pdu.Pdu.TheVariants as pdus
use Rattle.cfdp_pdus.specs.Canonical.{file_data_field}
use Rattle.cfdp_pdus.proofs.CanonicalSteps.{pdu_spelled, file_data_spelled, file_data_short}
use Rattle.cfdp_pdus.proofs.laws.file_data_reads_back.Goals as goal

pub returns : goal.returns
returns c = λ header file_data is sized fits. pdu_spelled true (pdus.FileData header file_data) (file_data_field header.large file_data) is
    (file_data_short header.large file_data fits) (file_data_spelled header file_data sized)
