use Rattle.std.proofs.Common.{◌≡◌, ◌+◌, ◌-◌, length, arith}
use Rattle.cfdp_lines.proofs.Pairs.{pair_more}
use Rattle.cfdp_lines.proofs.Vectors.{block_more, by_fold, from_there}
use Rattle.cfdp_lines.proofs.digits.decode_pairs.Goals as goal

pub pairs-preserved : goal.pairs-preserved
pairs-preserved c =
    pair_more c.args.word.now c.pairs.room c.pairs.index c.pairs.seen _ _ (omega arith) c.pairs.invariant
    c.value_of-high.ensures c.value_of-low.ensures

pub vectors-preserved : goal.vectors-preserved
vectors-preserved c =
    let word = c.args.word.now in
    let start = c.vectors.start in
    let sub = c.decode_block-lanes.new.room in
    record {
      pairs = block_more word sub start c.decode_block-lanes.result (from_there word sub start _ c.decode_block-lanes.ensures)
          c.vectors.room _ c.vectors.lanes start c.vectors.invariant.pairs (omega arith) (omega arith) (omega arith) (omega arith) (omega arith);
      within = omega arith;
    }

pub returns : goal.returns
returns c =
    let word = c.args.word.now in
    let room = c.vectors.room in
    let last = length room - 16 in
    let sub = c.decode_block.new.room in
    let all : last + 16 ≡ length c.args.room.now = omega arith in
    rw (← all)
    (by_fold word _ _ (last + 16)
    (block_more word sub last c.decode_block.result (from_there word sub last _ c.decode_block.ensures)
    room _ c.vectors.lanes c.vectors.start c.vectors.invariant.pairs (omega arith) (omega arith) (omega arith) (omega arith) (omega arith)))
