-- What stays as it was where octets of a run are written, or where the octets of a file or a staged list become others.
--     WritesOnly old new run      only octets of the run are written: it is held, its blocks are in the same order, no
--                                 other live block changes, none is taken or given back, and no node changes
--     ChangesOnly old new was now before after
--                                 only these octets change, with their run and its ways: no other run that is held, nor
--                                 its ways, no node, and not how many blocks there are
use Rattle.std.specs.Prelude.{◌≡◌, ℕ, ◌≤◌, List, length}
use Rattle.cfdp_arena.specs.Arena.{Blocks, free_count}
use Rattle.cfdp_tree.specs.code.Nodes.{nodes_in}
use Rattle.cfdp_tree.specs.code.Contents.{IsFilled}
use Rattle.cfdp_tree.specs.code.Runs.{IsHeld, OtherRunsStay, Spares, nth}
use Rattle.cfdp_tree.specs.code.Ways.{HasWays, KeepsWays}
use Rattle.cfdp_tree.specs.declared.contents.Contents.{Contents}
use Rattle.cfdp_tree.specs.declared.runs.Run.{Run}
use Rattle.cfdp_ways.specs.declared.way.Way.{Way}

pub record WritesOnly (old new : Blocks) (run : Run) : Type 0 where
  pub held : IsHeld new run
  pub sequence : (k : ℕ) → k ≤ run.count → nth new run.first k ≡ nth old run.first k
  pub free : free_count new ≡ free_count old
  pub size : length new ≡ length old
  pub others : OtherRunsStay old new run
  pub nodes : nodes_in new ≡ nodes_in old

pub record ChangesOnly (old new : Blocks) (was now : List Way) (before after : Contents) : Type 0 where
  pub filled : IsFilled new after
  pub ways : HasWays new now after.run
  pub spares : Spares old new before.run after.run
  pub other_ways : KeepsWays old new was now before.run
  pub capacity : length new ≡ length old
  pub nodes : nodes_in new ≡ nodes_in old
