use Rattle.std.proofs.Common.{◌-◌, sym, ap, ◌∙◌, arith}
use Rattle.cfdp_tree.specs.code.Runs.{nth}
use Rattle.cfdp_tree.proofs.contents.Contents.make_room.Goals as goal
use Rattle.cfdp_actions.proofs.RowLaws.{blocks_of-mono}

pub returns-else-none-clause-cursor : goal.returns-else-none-clause-cursor
returns-else-none-clause-cursor c =
    let old = c.args.self.now in let new = c.extend.new.self in let f = c.requires.filled in let e = c.extend.ensures in
    let longer = blocks_of-mono old.size new.size (omega (arith, e.size)) in (
      omega (arith, c.tail-tail.ensures.index, f.blocks, e.only.filled.blocks, longer),
      c.tail-tail.ensures.block
          ∙ f.held.last (omega arith)
          ∙ sym (e.sequence (old.run.count - 1) (omega arith))
          ∙ ap (nth c.extend.new.arena new.run.first) (sym c.tail-tail.ensures.index),
    )
