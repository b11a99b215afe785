use Rattle.std.proofs.Common.{rules}
use Rattle.cfdp_actions.specs.Filestore.{blocks_of}
use Rattle.cfdp_actions.proofs.blocks.blocks_of.Goals as goal

pub returns : goal.returns
unfolding blocks_of
returns c = search rules
