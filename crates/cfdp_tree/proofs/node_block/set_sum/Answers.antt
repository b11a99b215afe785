use Rattle.std.proofs.Common.{◌+◌, ◌*◌, ◌∙◌, set, get_or, arith}
use Rattle.std.proofs.lemmas.List.{drop-set-lt}
use Rattle.cfdp_tree.proofs.OfNodes.NodeFieldLaws.{fields-summed}
use Rattle.cfdp_tree.proofs.node_block.set_sum.Goals as goal

pub returns-clause-fields : goal.returns-clause-fields
returns-clause-fields c =
    let e = c.to_le_bytes.ensures in
    let is = (λ k. get_or (e k) 0 0 + 256 * get_or (e k) 1 0 + 65536 * (get_or (e k) 2 0 + 256 * get_or (e k) 3 0)) ∙ omega (arith, c.ranges.sum.fits) in
    fields-summed c.args.block.now c.told-block _ _ _ _ c.args.sum is

pub returns-clause-name : goal.returns-clause-name
returns-clause-name c =
    let block = c.args.block.now in let bytes = c.to_le_bytes.result in
    let one = set block 26 (get_or bytes 0 0) in
    let two = set one 27 (get_or bytes 1 0) in
    let three = set two 28 (get_or bytes 2 0) in
    drop-set-lt 32 three 29 (get_or bytes 3 0) (omega arith)
    ∙ drop-set-lt 32 two 28 (get_or bytes 2 0) (omega arith)
    ∙ drop-set-lt 32 one 27 (get_or bytes 1 0) (omega arith)
    ∙ drop-set-lt 32 block 26 (get_or bytes 0 0) (omega arith)
