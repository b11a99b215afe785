-- The octets of a file or of a staged list: those that are first in a run, which has just the blocks for them. After
-- them the run's last block has zeros, so that a list grows by zeros without a write. Their checksum is kept with them.
--     contents_in                 the octets
--     IsFilled arena contents     the run is held, has the blocks of the size, and zeros after it; the sum is the
--                                 checksum of the octets
use Rattle.std.specs.Prelude.{◌≡◌, ℕ, ◌-◌, ◌*◌, List, take, drop, replicate}
use Rattle.cfdp_arena.specs.Arena.{Blocks}
use Rattle.cfdp_actions.specs.Filestore.{blocks_of}
use Rattle.cfdp_checksum.specs.Checksum.{checksum}
use Rattle.cfdp_tree.specs.code.Runs.{IsHeld, octets_of_run}
use Rattle.cfdp_tree.specs.declared.contents.Contents.{Contents}

abbrev pub contents_in : Blocks → Contents → List ℕ
contents_in arena contents = take contents.size (octets_of_run arena contents.run)

pub record IsFilled (arena : Blocks) (contents : Contents) : Type 0 where
  pub held : IsHeld arena contents.run
  pub blocks : contents.run.count ≡ blocks_of contents.size
  pub zeros : drop contents.size (octets_of_run arena contents.run) ≡ replicate
      (120 * contents.run.count - contents.size) 0
  pub summed : contents.sum ≡ checksum (contents_in arena contents)
