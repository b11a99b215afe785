use Rattle.std.proofs.Common.{◌≡◌, ℕ, ◌<◌, List, length, refl, sym, ap, ◌∙◌, subst, arith}
use Rattle.cfdp_tree.specs.declared.runs.Run.{Run}
use Rattle.cfdp_tree.specs.declared.slots.Slot.{Slot}
use Rattle.cfdp_tree.specs.code.Runs.{nth}
use Rattle.cfdp_tree.specs.code.Ways.{HasWays}
use Rattle.cfdp_tree.specs.code.Contents.{contents_in}
use Rattle.cfdp_tree.specs.code.Slots.{blank_end, IsUnwrittenSlot}
use Rattle.cfdp_tree.proofs.OfRuns.ContentsLaws.{length-contents}
use Rattle.cfdp_tree.proofs.OfStore.SlotCursors.{end_written, same_unwritten}
use Rattle.cfdp_tree.proofs.OfRuns.WayLaws.{ways_still, keeps_still}
use Rattle.cfdp_tree.proofs.slots.Slot.put.Goals as goal
use Rattle.cfdp_actions.proofs.RowLaws.{blocks_of-fits}

pub returns-clause-ways : goal.returns-clause-ways
returns-clause-ways c =
    let put = c.put-self.ensures in let later = c.put-self.new.arena in let run = c.args.self.now.contents.run in
    let still : (k : ℕ) → k < run.count → nth later run.first k ≡ nth c.args.arena.now run.first k =
    (λ k less. ap (λ (r : Run). nth later r.first k) (sym put.run) ∙ put.sequence k (omega (arith, less))) in
    subst (HasWays later c.args.ways.now) (sym put.run) (ways_still c.args.arena.now later c.args.ways.now run put.capacity still c.requires.ways)

pub returns-clause-other_ways : goal.returns-clause-other_ways
returns-clause-other_ways c =
    let put = c.put-self.ensures in
    keeps_still c.args.arena.now c.put-self.new.arena c.args.ways.now c.args.self.now.contents.run c.put-self.new.self.run put.capacity put.spares

pub find-self-requires-clause-within : goal.find-self-requires-clause-within
find-self-requires-clause-within c = omega (arith, c.requires.filled.blocks, c.requires.range, blocks_of-fits c.args.self.now.contents.size)

pub sum_there-before-requires-clause-sound : goal.sum_there-before-requires-clause-sound
sum_there-before-requires-clause-sound c =
    let known = c.requires.sound.unwritten in
    record { cursor = c.find-self.ensures.cursor; unwritten = record { end = known.end; gap = known.gap } }

pub gap_after-self-requires : goal.gap_after-self-requires
gap_after-self-requires c = record { ordered = c.requires.sound.unwritten.gap.ordered }

same_octets : (xs ys : List ℕ) (slot : Slot) → xs ≡ ys → IsUnwrittenSlot ys slot → IsUnwrittenSlot xs slot
same_octets xs ys slot e known = subst (λ zs. IsUnwrittenSlot zs slot) (sym e) known

pub returns-clause-sound : goal.returns-clause-sound
returns-clause-sound c =
    let a = c.args.arena.now in let slot = c.args.self.now in let r = c.requires in let put = c.put-self.ensures in let at = c.args.at in let part =
    c.args.octets.now in
    let octets = contents_in a slot.contents in
    let long : length octets ≡ slot.contents.size = length-contents a slot.contents r.filled in
    let known = r.sound.unwritten in
    record {
      cursor = put.cursor;
      unwritten = same_octets _ _ _ put.octets (record {
        end = end_written octets part at (blank_end slot) _ (omega (arith, r.range, long)) known.end (omega (arith, c.max-self.ensures))
            (omega (arith, c.max-self.ensures)) (omega (arith, c.max-self.ensures, known.end.ordered, r.range, put.size)) put.size;
        gap = c.gap_after-self.ensures.blank octets part (long ∙ sym put.size) refl (omega (arith, r.range, long))
            (same_unwritten octets slot _ put.size refl refl known);
      });
    }
