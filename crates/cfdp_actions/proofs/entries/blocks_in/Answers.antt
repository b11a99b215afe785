use Rattle.std.proofs.Common.{arith, length}
use Rattle.cfdp_actions.proofs.BlocksLaws.{weights_next, lists_next, blocks_of-bound}
use Rattle.cfdp_actions.proofs.entries.blocks_in.Goals as goal

pub blocks-blocks-requires : goal.blocks-blocks-requires
blocks-blocks-requires c = omega (arith, weights_next _ _ _ c.loop-entry-test.true c.entry-item.is, c.requires, c.loop-entry.invariant)

pub overflow_add-blocks : goal.overflow_add-blocks
overflow_add-blocks c = omega (arith, weights_next _ _ _ c.loop-entry-test.true c.entry-item.is, c.requires, c.loop-entry.invariant, c.blocks-blocks.ensures)

pub loop-entry-preserved : goal.loop-entry-preserved
loop-entry-preserved c = omega (arith, weights_next _ _ _ c.loop-entry-test.true c.entry-item.is, c.loop-entry.invariant, c.blocks-blocks.ensures)

pub blocks_of-blocks-requires : goal.blocks_of-blocks-requires
blocks_of-blocks-requires c =
    let next = lists_next _ _ _ c.loop-list-test.true c.list-item.is in
    let here = blocks_of-bound (length c.list-item.result.items) (omega (arith, next, c.loop-list.invariant, c.requires)) in
    omega (arith, here, c.len.ensures, c.list-item.result.ok.0)
