use Rattle.std.proofs.Common.{drop, ap, ◌∙◌, arith}
use Rattle.cfdp_tree.proofs.OfNodes.NodeFieldLaws.{name_kept}
use Rattle.cfdp_tree.proofs.node_block.set_same_head.Goals as goal

pub returns-clause-name : goal.returns-clause-name
returns-clause-name c = ap (drop 32) c.set_number.ensures.number ∙ name_kept c.args.block.now 20 c.number.result (omega arith)
