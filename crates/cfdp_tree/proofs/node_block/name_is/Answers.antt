use Rattle.std.proofs.Common.{arith}
use Rattle.std.proofs.lemmas.Grind.{common_steps}
use Rattle.cfdp_tree.proofs.OfNodes.NodeFieldLaws.{length-name}
use Rattle.cfdp_tree.proofs.node_block.name_is.Goals as goal

pub returns-else-from-name : goal.returns-else-from-name
returns-else-from-name c =
    let long = length-name c.args.block.now c.told-block c.requires.fits in
    grind (arith, common_steps, long, c.from.ensures)
