use Rattle.std.proofs.Common.{◌≡◌, ◌+◌, ◌-◌, take, ap, ◌∙◌, arith}
use Rattle.cfdp_checksum.specs.Checksum.{checksum_at}
use Rattle.cfdp_checksum.proofs.ChecksumSteps.{only-word-offsets-count}
use Rattle.cfdp_tree.specs.code.Runs.{octets_of_run}
use Rattle.cfdp_tree.specs.code.Contents.{contents_in}
use Rattle.cfdp_tree.proofs.contents.Contents.sum_at.Goals as goal
use Rattle.cfdp_actions.proofs.RowLaws.{blocks_of-fits}

pub sum_of-requires-clause-range : goal.sum_of-requires-clause-range
sum_of-requires-clause-range c = omega (arith, c.requires.filled.blocks, blocks_of-fits c.args.self.now.size)

pub returns-then-offset-eq0 : goal.returns-then-offset-eq0
returns-then-offset-eq0 c = c.requires.filled.summed ∙ only-word-offsets-count 0 c.args.offset (contents_in c.args.arena.now c.args.self.now)
    (omega (arith, c.if-offset-eq0.true))

pub returns : goal.returns
returns c =
    let old = c.args.self.now in let all : 0 + old.size - 0 ≡ old.size = omega arith in
    c.sum_of.ensures ∙ ap (λ n. checksum_at c.args.offset (take n (octets_of_run c.args.arena.now old.run))) all
