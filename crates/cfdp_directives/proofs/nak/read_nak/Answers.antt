use Rattle.cfdp_directives.proofs.Lengths.{counted_few}
use Rattle.cfdp_directives.proofs.Ranges.{too_many}
use Rattle.cfdp_directives.proofs.nak.read_nak.Goals as goal

pub returns-then-requests-count-clause-exact : goal.returns-then-requests-count-clause-exact
returns-then-requests-count-clause-exact c =
    rw c.range_len-range_len.ensures (too_many _ c.args.octets.now c.in_ok-header.header c.in_ok-header.ranges.now
    c.in_ok-header.ensures.exact (rw (← c.range_len-range_len.ensures) c.if-requests-count.true))

pub returns-clause-most : goal.returns-clause-most
returns-clause-most c =
    rw c.range_len-range_len.ensures (counted_few c.in_ok-header.header.large _ c.in_ok-header.ensures.short)
