use Rattle.std.proofs.Common.{◌-◌, ◌*◌, take, drop, replicate, sym, ap, ◌∙◌, arith}
use Rattle.cfdp_checksum.specs.Checksum.{checksum}
use Rattle.cfdp_tree.specs.code.Runs.{octets_of_run}
use Rattle.cfdp_tree.specs.code.Contents.{contents_in}
use Rattle.cfdp_tree.proofs.OfRuns.RunLaws.{length-run}
use Rattle.cfdp_tree.proofs.OfRuns.Filling.{extended_octets, extended_zeros}
use Rattle.cfdp_tree.proofs.OfRuns.SpareLaws.{spares_grown}
use Rattle.cfdp_tree.proofs.OfRuns.SummingLaws.{extended_sum}
use Rattle.cfdp_tree.proofs.OfRuns.WayLaws.{keeps_spared}
use Rattle.cfdp_tree.proofs.contents.Contents.extend.Goals as goal
use Rattle.cfdp_actions.proofs.RowLaws.{blocks_of-fits, blocks_of-mono, blocks_of-small}

pub grow_to-requires-clause-more : goal.grow_to-requires-clause-more
grow_to-requires-clause-more c =
    omega (arith, c.requires.filled.blocks, c.blocks_of.ensures, blocks_of-mono c.args.self.now.size c.args.size c.requires.longer)

pub grow_to-requires-clause-few : goal.grow_to-requires-clause-few
grow_to-requires-clause-few c = omega (arith, c.blocks_of.ensures, blocks_of-small c.args.size c.requires.most)

pub returns-clause-octets : goal.returns-clause-octets
returns-clause-octets c =
    let f = c.requires.filled in let old = c.args.self.now in let run = old.run in let size = c.args.size in let n = c.blocks_of.result in let g =
    c.grow_to.ensures in
    let xs = octets_of_run c.args.arena.now run in
    let long = length-run c.args.arena.now run.first 0 run.count run.first f.held.parts in
    let least = blocks_of-fits old.size in
    let fits = blocks_of-fits size in
    let more = blocks_of-mono old.size size c.requires.longer in
    ap (take size) g.octets
    ∙ extended_octets xs old.size run.count long (omega (arith, f.blocks, least)) f.zeros size n c.requires.longer (omega (arith, c.blocks_of.ensures, fits))
    (omega (arith, f.blocks, c.blocks_of.ensures, more))

pub returns-clause-only : goal.returns-clause-only
returns-clause-only c =
    let f = c.requires.filled in let old = c.args.self.now in let run = old.run in let size = c.args.size in let n = c.blocks_of.result in let g =
    c.grow_to.ensures in
    let xs = octets_of_run c.args.arena.now run in
    let long = length-run c.args.arena.now run.first 0 run.count run.first f.held.parts in
    let least = blocks_of-fits old.size in
    let fits = blocks_of-fits size in
    let more = blocks_of-mono old.size size c.requires.longer in
    let spared = spares_grown c.args.arena.now c.grow_to.new.arena run c.grow_to.new.self g.others g.first
    (λ none some. g.fresh none (omega (arith, g.count))) in
    record {
      filled = record {
        held = g.held;
        blocks = g.count ∙ c.blocks_of.ensures;
        zeros = ap (drop size) g.octets
            ∙ extended_zeros xs old.size run.count long (omega (arith, f.blocks, least)) f.zeros size n c.requires.longer
            (omega (arith, c.blocks_of.ensures, fits)) (omega (arith, f.blocks, c.blocks_of.ensures, more))
            ∙ ap (λ k. replicate (120 * k - size) 0) (sym g.count);
        summed = f.summed ∙ sym (ap checksum (returns-clause-octets c) ∙ extended_sum (contents_in c.args.arena.now old) size);
      };
      ways = g.ways;
      spares = spared;
      other_ways = keeps_spared c.args.arena.now c.grow_to.new.arena c.args.ways.now c.grow_to.new.ways run c.grow_to.new.self g.size
          (g.ways.long ∙ g.size ∙ sym c.requires.ways.long) spared g.ways_stay;
      capacity = g.size;
      nodes = g.nodes;
    }
