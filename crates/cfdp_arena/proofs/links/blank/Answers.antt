use Rattle.std.proofs.Common.{refl}
use Rattle.cfdp_arena.specs.Blocks.{blank_block}
use Rattle.cfdp_arena.proofs.links.blank.Goals as goal

pub returns : goal.returns
unfolding blank_block
returns c = record { zeros = refl }
