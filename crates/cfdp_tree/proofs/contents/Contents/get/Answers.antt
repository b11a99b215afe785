use Rattle.std.proofs.Common.{◌≤◌, length, ◌∙◌, arith}
use Rattle.cfdp_tree.specs.code.Runs.{octets_of_run}
use Rattle.cfdp_tree.proofs.OfRuns.RunLaws.{length-run}
use Rattle.cfdp_tree.proofs.OfRuns.Filling.{front_read}
use Rattle.cfdp_tree.proofs.contents.Contents.get.Goals as goal
use Rattle.cfdp_actions.proofs.RowLaws.{blocks_of-fits}

pub read-requires-clause-range : goal.read-requires-clause-range
read-requires-clause-range c = omega (arith, c.requires.filled.blocks, c.requires.range, blocks_of-fits c.args.self.now.size)

pub returns-clause-octets : goal.returns-clause-octets
returns-clause-octets c =
    let f = c.requires.filled in let old = c.args.self.now in let run = old.run in
    let xs = octets_of_run c.args.arena.now run in
    let long = length-run c.args.arena.now run.first 0 run.count run.first f.held.parts in
    let there : old.size ≤ length xs = omega (arith, long, f.blocks, blocks_of-fits old.size) in
    c.read.ensures.octets ∙ front_read xs old.size there c.args.at (length c.args.buffer.now) c.requires.range
