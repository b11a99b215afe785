use Rattle.std.proofs.Common.{arith, ◌+◌}
use Rattle.byteorder.specs.Endian.{big_bytes}
use Rattle.byteorder.specs.Numbers.{length-bytes_high_first}
use Rattle.cfdp_pdus.specs.Bits.{fss}
use Rattle.cfdp_pdus.proofs.BufferParts.{then}
use Rattle.cfdp_directives.proofs.nak.put_range.Goals as goal

pub returns : goal.returns
returns c =
    let len = fss c.args.large in
    let start = big_bytes len c.args.range.0 in
    let end = big_bytes len c.args.range.1 in
    then c.args.out.now c.put_number.new.out c.put_number-2.new.out start end c.args.at (c.args.at + c.size_len-len.result)
    (omega (arith, c.requires.room))
    (rw (← c.size_len-len.ensures) c.put_number.ensures)
    (rw (← c.size_len-len.ensures) c.put_number-2.ensures)
    (omega (arith, c.size_len-len.ensures, length-bytes_high_first len c.args.range.0))
