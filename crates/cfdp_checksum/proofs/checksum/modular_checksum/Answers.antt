use Rattle.cfdp_checksum.specs.Checksum.{checksum}
use Rattle.cfdp_checksum.proofs.ChecksumSteps.{weighed-word, sum-step}
use Rattle.cfdp_checksum.proofs.checksum.modular_checksum.Goals as goal

pub words-preserved : goal.words-preserved
words-preserved c =
    let word = weighed-word c.words.rest.now c.words-test.true in
    rw (c.split_at.ensures.back, c.read_u32-sum.ensures) (sum-step c.words.sum _ _ (checksum c.args.octets.now) (rw (← word) c.words.invariant))
