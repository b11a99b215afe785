use Rattle.cfdp_checksum.proofs.ChecksumSteps.{only-word-offsets-count}
use Rattle.cfdp_checksum.proofs.laws.only_word_offsets_count.Goals as goal

pub returns : goal.returns
returns c = only-word-offsets-count
