-- The position of a slot, and what of it was never written.
--     tail_cursor               the last block's position
--     slot_starts, slot_stays   a slot that was given other contents, and one whose run stays
--     slot_grown                zeros come to the end of a slot
--     gap_written, end_written  some octets of a slot are written
--     same_unwritten            another slot of as many octets
use Rattle.std.proofs.Common.{◌≡◌, ◌⊎◌, ℕ, ◌+◌, ◌-◌, ◌<◌, ◌≤◌, max, List, length, sym, ap, ◌∙◌, subst, inl, inr, arith}
use Rattle.cfdp_actions.specs.Store.{extended, overwritten}
use Rattle.cfdp_arena.specs.Arena.{Blocks}
use Rattle.cfdp_ways.specs.declared.cursor.Cursor.{Cursor}
use Rattle.cfdp_tree.specs.declared.runs.Run.{Run}
use Rattle.cfdp_tree.specs.declared.gap.Gap.{Gap}
use Rattle.cfdp_tree.specs.declared.slots.Slot.{Slot}
use Rattle.cfdp_tree.specs.code.Runs.{nth, IsHeld, IsAt, Stays}
use Rattle.cfdp_tree.specs.code.Contents.{IsFilled, contents_in}
use Rattle.cfdp_tree.specs.code.Slots.{no_gap, IsBlank, blank_end, IsUnwrittenSlot, IsSoundSlot}
use Rattle.cfdp_tree.proofs.OfRuns.ContentsLaws.{length-contents, stays_contents}
use Rattle.cfdp_tree.proofs.OfStore.GapLaws.{none_blank, part_blank, after_blank, left_blank, skipped_blank, grown_blank, grown_end}

pub tail_cursor : (arena : Blocks) (run : Run) (cursor : Cursor) → IsHeld arena run → 0 < run.count → cursor.block ≡ run.last
    → cursor.index ≡ run.count - 1 → IsAt arena run cursor
tail_cursor arena run cursor held some block index =
    (omega (arith, index), block ∙ held.last some ∙ ap (nth arena run.first) (sym index))

pub slot_starts : (arena : Blocks) (slot : Slot) → slot.cursor.block ≡ slot.contents.run.first → slot.cursor.index ≡ 0 → slot.blank_from ≡ slot.contents.size →
    slot.gap ≡ no_gap → IsSoundSlot arena slot
slot_starts arena slot block index blank gap =
    let contents = slot.contents in
    let octets = contents_in arena contents in
    record {
      cursor = (omega (arith, index), block ∙ ap (nth arena contents.run.first) (sym index));
      unwritten = record {
        end = none_blank octets (blank_end slot) blank;
        gap = subst (IsBlank octets) (sym gap) (none_blank octets no_gap (omega arith));
      };
    }

pub slot_stays : (old new : Blocks) (slot : Slot) → Stays old new slot.contents.run → IsSoundSlot old slot → IsSoundSlot new slot
slot_stays old new slot stays was = record {
  cursor = (was.cursor.0, was.cursor.1 ∙ sym (stays.sequence slot.cursor.index was.cursor.0));
  unwritten = subst (λ octets. IsUnwrittenSlot octets slot) (sym (stays_contents old new slot.contents stays)) was.unwritten;
}

-- zeros come to the end
pub slot_grown : (old new : Blocks) (slot after : Slot) (size : ℕ) → IsFilled old slot.contents → IsUnwrittenSlot (contents_in old slot.contents) slot →
    slot.contents.size ≤ size
    → contents_in new after.contents ≡ extended (contents_in old slot.contents) size → after.contents.size ≡ size → after.blank_from ≡ slot.blank_from →
    after.gap ≡ slot.gap → IsUnwrittenSlot (contents_in new after.contents) after
slot_grown old new slot after size filled was longer octets_are size_is from_is gap_is =
    let octets = contents_in old slot.contents in
    let long = length-contents old slot.contents filled in
    let more : length octets ≤ size = omega (arith, long, longer) in
    subst (λ xs. IsUnwrittenSlot xs after) (sym octets_are) (record {
      end = grown_end octets size more (blank_end slot) (blank_end after) was.end (sym long) from_is size_is;
      gap = subst (IsBlank (extended octets size)) (sym gap_is) (grown_blank octets size more slot.gap was.gap);
    })

-- octets are written: what is left of the gap, or what was left out before them, is the gap then
pub gap_written : (octets part : List ℕ) (at end : ℕ) (slot : Slot) (left skipped after : Gap) → length octets ≡ slot.contents.size → at + length part ≡ end →
    end ≤ length octets → IsUnwrittenSlot octets slot
    → left.from ≤ left.to → slot.gap.from ≤ left.from → left.to ≤ slot.gap.to → (left.to ≤ at) ⊎ ((end ≤ left.from) ⊎ (left.from ≡ left.to))
    → skipped.from ≡ slot.blank_from → skipped.to ≡ max at slot.blank_from → (after ≡ left) ⊎ (after ≡ skipped) → IsBlank (overwritten octets at part) after
gap_written octets part at end slot left skipped after long end_is range was ordered begins ends apart from_is to_is either =
    let inside : at + length part ≤ length octets = omega (arith, end_is, range) in
    elim either [
      | inl e ↦ subst (IsBlank (overwritten octets at part)) (sym e)
          (left_blank octets at part inside slot.gap left was.gap ordered begins ends
          (subst (λ x. (left.to ≤ at) ⊎ ((x ≤ left.from) ⊎ (left.from ≡ left.to))) (sym end_is) apart))
      | inr e ↦ subst (IsBlank (overwritten octets at part)) (sym e) (skipped_blank octets at part inside (blank_end slot) skipped was.end
          (omega (arith, end_is, range, long)) from_is to_is)
    ]

-- and the octets after all that were written
pub end_written : (octets part : List ℕ) (at : ℕ) (end after : Gap) → at + length part ≤ length octets → IsBlank octets end → at + length part ≤ after.from →
    end.from ≤ after.from → after.from ≤ after.to → after.to ≡ end.to
    → IsBlank (overwritten octets at part) after
end_written octets part at end after range was following begins ordered ends =
    after_blank octets at part range after following (part_blank octets end was after begins ordered (omega (arith, ends)))

-- a slot of as many octets
pub same_unwritten : (octets : List ℕ) (slot after : Slot) → after.contents.size ≡ slot.contents.size → after.blank_from ≡ slot.blank_from → after.gap
    ≡ slot.gap → IsUnwrittenSlot octets slot → IsUnwrittenSlot octets after
same_unwritten octets slot after size_is from_is gap_is was = record {
  end = subst (IsBlank octets) (λ k. record { from = sym from_is k; to = sym size_is k }) was.end;
  gap = subst (IsBlank octets) (sym gap_is) was.gap;
}
