use Rattle.std.proofs.Common.{◌*◌, ◌/◌, ◌^◌, ap, ◌∙◌}
use Rattle.cfdp_checksum.proofs.ChecksumSteps.{weighed-shifted}
use Rattle.cfdp_checksum.proofs.checksum.first_word.Goals as goal

pub returns : goal.returns
returns c =
    let r = c.requires in
    ap (λ n. n / 2 ^ (8 * c.args.word_offset)) c.last_word.ensures ∙ weighed-shifted c.args.word_offset c.args.octets.now r.some r.inside r.fits
