use Rattle.std.proofs.Common.{arith, ◌∷◌, [], ◌+◌, length}
use Rattle.cfdp_pdus.proofs.BufferParts.{then}
use Rattle.cfdp_transactions.proofs.finished_in_buffer.put_lv.Goals as goal

pub returns-clause-written : goal.returns-clause-written
returns-clause-written c =
    then c.args.out.now c.put_octets.new.out c.put_octets-2.new.out (length c.args.value.now ∷ []) c.args.value.now c.args.at (c.args.at + 1)
    (omega (arith, c.requires.room)) c.put_octets.ensures c.put_octets-2.ensures (omega arith)
