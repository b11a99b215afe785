use Rattle.std.proofs.Common.{◌+◌, ◌*◌, ◌∙◌, get_or, arith}
use Rattle.cfdp_tree.proofs.OfNodes.NodeFieldLaws.{fields-sized}
use Rattle.cfdp_tree.proofs.node_block.set_size.Goals as goal

pub returns-clause-fields : goal.returns-clause-fields
returns-clause-fields c =
    let e = c.to_le_bytes.ensures in
    let is = (λ k. get_or (e k) 0 0 + 256 * get_or (e k) 1 0 + 65536 * (get_or (e k) 2 0 + 256 * get_or (e k) 3 0)) ∙ omega (arith, c.ranges.size.fits) in
    fields-sized c.args.block.now c.told-block _ _ _ _ c.args.size is
