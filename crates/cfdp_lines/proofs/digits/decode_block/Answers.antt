use Rattle.std.proofs.Common.{◌++◌, arith}
use Rattle.cfdp_lines.proofs.Vectors.{block_pairs, chunk_octets, values_at}
use Rattle.cfdp_lines.proofs.digits.decode_block.Goals as goal

pub values_in-front-requires : goal.values_in-front-requires
values_in-front-requires c = chunk_octets 0 c.args.word.now (omega arith) c.type_inv.word

pub values_in-back-requires : goal.values_in-back-requires
values_in-back-requires c = chunk_octets 16 c.args.word.now (omega arith) c.type_inv.word

pub returns : goal.returns
returns c =
    let front = c.values_in-front.result in
    let back = c.values_in-back.result in
    let word = c.args.word.now in
    block_pairs word (front ++ back) c.args.room.now
    (values_at word front back c.requires.word c.values_in-front.ensures c.values_in-back.ensures)
    c.requires.room
