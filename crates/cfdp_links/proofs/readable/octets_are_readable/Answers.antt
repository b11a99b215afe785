use Rattle.std.proofs.Common.{arith}
use Rattle.cfdp_pdus.proofs.SoundSteps.{octets_from}
use Rattle.cfdp_links.proofs.Hearing.{octets_readable}
use Rattle.cfdp_links.proofs.readable.octets_are_readable.Goals as goal

pub returns : goal.returns
returns c = octets_readable c.what_was_read_is_readable.ensures c.args.octets.now (octets_from c.args.octets.now (λ i. omega (arith, c.type_inv.octets i)))
