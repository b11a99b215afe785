use Rattle.std.proofs.Common.{◌≤◌, ◌∙◌, refl, sym, ap, arith}
use Rattle.cfdp_actions.specs.Filestore.{blocks_of}
use Rattle.cfdp_actions.proofs.RowLaws.{blocks_of-mono}
use Rattle.cfdp_tree.specs.code.Runs.{nth}
use Rattle.cfdp_tree.proofs.OfStore.SlotCursors.{slot_grown}
use Rattle.cfdp_tree.proofs.slots.Slot.extend.Goals as goal

pub returns-then-not-within-clause-sound : goal.returns-then-not-within-clause-sound
returns-then-not-within-clause-sound c =
    let start = c.start-self.ensures in
    record {
      cursor = (omega (arith, start.index), start.block ∙ ap (nth c.extend.new.arena c.extend.new.self.run.first) (sym start.index));
      unwritten = slot_grown c.args.arena.now c.extend.new.arena c.args.self.now _ c.args.size c.requires.filled c.requires.sound.unwritten c.requires.longer
          c.extend.ensures.octets c.extend.ensures.size refl refl;
    }

pub returns-else-not-within-clause-sound : goal.returns-else-not-within-clause-sound
returns-else-not-within-clause-sound c =
    let was = c.args.self.now in let after = c.extend.new.self in let at = c.requires.sound.cursor in
    let more = blocks_of-mono was.contents.size c.args.size c.requires.longer in
    let size = ap blocks_of c.extend.ensures.size in
    let grown : was.contents.run.count ≤ after.run.count = omega (arith, c.requires.filled.blocks, c.extend.ensures.only.filled.blocks, size, more) in
    record {
      cursor = (omega (arith, at.0, grown), at.1 ∙ sym (c.extend.ensures.sequence was.cursor.index c.if-not-within.false));
      unwritten = slot_grown c.args.arena.now c.extend.new.arena c.args.self.now _ c.args.size c.requires.filled c.requires.sound.unwritten c.requires.longer
          c.extend.ensures.octets c.extend.ensures.size refl refl;
    }
