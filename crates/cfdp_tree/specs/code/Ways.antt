-- The ways back in runs, which are beside the arena: for each of its blocks the block before it in its run, and a block
-- further back.
--     HasWays arena ways run                 each block of the arena has a way, and those of the run's blocks lead back
--     StayLive old new                       what was live is live
--     WaysStay old was now                   the ways of live blocks stay
--     KeepsWays old new was now run          each run that was held and is apart from this one has its ways still
use Rattle.std.specs.Prelude.{◌≡◌, ℕ, List, length}
use Rattle.cfdp_arena.specs.Arena.{Blocks, IsLive}
use Rattle.cfdp_ways.specs.declared.way.Way.{Way}
use Rattle.cfdp_ways.specs.Ways.{way_of, IsLed}
use Rattle.cfdp_tree.specs.declared.runs.Run.{Run}
use Rattle.cfdp_tree.specs.code.Runs.{nth, IsHeld, Apart}

pub record HasWays (arena : Blocks) (ways : List Way) (run : Run) : Type 0 where
  pub long : length ways ≡ length arena
  pub led : IsLed ways (nth arena run.first) run.count

abbrev pub StayLive : Blocks → Blocks → Type 0
StayLive old new = (block : ℕ) → IsLive old block → IsLive new block

abbrev pub WaysStay : Blocks → List Way → List Way → Type 0
WaysStay old was now = (block : ℕ) → IsLive old block → way_of now block ≡ way_of was block

abbrev pub KeepsWays : Blocks → Blocks → List Way → List Way → Run → Type 0
KeepsWays old new was now run = (other : Run) → IsHeld old other → Apart run other → HasWays old was other →
    HasWays new now other
