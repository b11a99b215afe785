use Rattle.std.proofs.Common.{arith}
use Rattle.byteorder.specs.Numbers.{big_from-lt}
use Rattle.cfdp_pdus.proofs.number.read_number.Goals as goal

pub returns-clause-fits : goal.returns-clause-fits
returns-clause-fits c = rw c.read_uint.ensures (big_from-lt 0 c.args.len c.args.octets.now (λ i. omega (arith, c.type_inv.octets i)))
