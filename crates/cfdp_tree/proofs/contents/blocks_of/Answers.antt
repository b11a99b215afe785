use Rattle.std.proofs.Common.{arith}
use Rattle.cfdp_actions.specs.Filestore.{blocks_of}
use Rattle.cfdp_tree.proofs.contents.blocks_of.Goals as goal

pub returns : goal.returns
unfolding blocks_of
returns c = omega arith
