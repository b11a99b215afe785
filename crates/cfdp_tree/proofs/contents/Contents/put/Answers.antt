use Rattle.std.proofs.Common.{sym, ap, ◌∙◌, arith}
use Rattle.cfdp_checksum.specs.Checksum.{checksum}
use Rattle.cfdp_tree.specs.code.Contents.{contents_in}
use Rattle.cfdp_tree.proofs.OfRuns.ContentsLaws.{length-contents, written_filled, written_contents}
use Rattle.cfdp_tree.proofs.OfRuns.SpareLaws.{spares_kept}
use Rattle.cfdp_tree.proofs.OfRuns.SummingLaws.{replaced_sum}
use Rattle.cfdp_tree.proofs.contents.Contents.put.Goals as goal
use Rattle.cfdp_actions.proofs.RowLaws.{blocks_of-fits}

pub write-last-requires-clause-range : goal.write-last-requires-clause-range
write-last-requires-clause-range c = omega (arith, c.requires.filled.blocks, c.requires.range, blocks_of-fits c.args.self.now.size)

pub returns-clause-octets : goal.returns-clause-octets
returns-clause-octets c =
    written_contents c.args.arena.now c.args.self.now c.requires.filled c.write-last.new.arena c.args.at c.args.octets.now c.requires.range
    c.write-last.ensures.only.held c.write-last.ensures.octets

pub returns-clause-filled : goal.returns-clause-filled
returns-clause-filled c =
    let a = c.args.arena.now in let old = c.args.self.now in let r = c.requires in let at = c.args.at in let part = c.args.octets.now in
    let replaced = replaced_sum (contents_in a old) at part (omega (arith, length-contents a old r.filled, r.range)) in
    written_filled a old r.filled c.write-last.new.arena at part r.range c.write-last.ensures.only.held c.write-last.ensures.octets _
    (omega (arith, r.filled.summed, r.before, c.modular_checksum_at-after.ensures, replaced) ∙ ap checksum (sym (returns-clause-octets c)))

pub returns-clause-spares : goal.returns-clause-spares
returns-clause-spares c = spares_kept c.args.arena.now c.write-last.new.arena c.args.self.now.run c.write-last.ensures.only.others
