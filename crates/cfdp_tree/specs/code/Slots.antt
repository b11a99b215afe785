-- The staged lists of a store, each with the position of its last write, with an offset from which on no octet was ever
-- written, and with a gap before it in which none was either.
--     lists_staged slots         the lists
--     no_gap                     a gap of no offsets
--     IsBlank octets gap         in the gap there are zeros alone
--     blank_end slot             the offsets after those of all octets that were written
--     IsUnwrittenSlot octets slot  there are zeros alone there and in the slot's gap
--     IsSoundSlot arena slot     the position is one of the list's run, and its octets are zeros where none was written
--     IsFreshSlot slot           the list is empty, the position and the offset are its beginning, and there is no gap
--     IsStore arena ways heads slots     what is true of every store of such parts
use Rattle.std.specs.Prelude.{◌≡◌, ℕ, ◌-◌, ◌≤◌, List, All, map, replicate, slice_range}
use Rattle.cfdp_arena.specs.Arena.{Blocks}
use Rattle.cfdp_ways.specs.declared.way.Way.{Way}
use Rattle.cfdp_tree.specs.declared.contents.Contents.{Contents}
use Rattle.cfdp_tree.specs.declared.gap.Gap.{Gap}
use Rattle.cfdp_tree.specs.declared.slots.Slot.{Slot}
use Rattle.cfdp_tree.specs.code.Runs.{IsAt}
use Rattle.cfdp_tree.specs.code.Contents.{contents_in}
use Rattle.cfdp_tree.specs.code.Index.{Heads}
use Rattle.cfdp_tree.specs.code.Kept.{no_contents, IsKeptStore}

abbrev pub lists_staged : List Slot → List Contents
lists_staged slots = map (λ slot. slot.contents) slots

abbrev pub no_gap : Gap
no_gap = record { from = 0; to = 0 }

pub record IsBlank (octets : List ℕ) (gap : Gap) : Type 0 where
  pub ordered : gap.from ≤ gap.to
  pub zeros : slice_range octets gap.from gap.to ≡ replicate (gap.to - gap.from) 0

abbrev pub blank_end : Slot → Gap
blank_end slot = record { from = slot.blank_from; to = slot.contents.size }

pub record IsUnwrittenSlot (octets : List ℕ) (slot : Slot) : Type 0 where
  pub end : IsBlank octets (blank_end slot)
  pub gap : IsBlank octets slot.gap

pub record IsSoundSlot (arena : Blocks) (slot : Slot) : Type 0 where
  pub cursor : IsAt arena slot.contents.run slot.cursor
  pub unwritten : IsUnwrittenSlot (contents_in arena slot.contents) slot

pub record IsFreshSlot (slot : Slot) : Type 0 where
  pub contents : slot.contents ≡ no_contents
  pub block : slot.cursor.block ≡ slot.contents.run.first
  pub index : slot.cursor.index ≡ 0
  pub blank : slot.blank_from ≡ 0
  pub gap : slot.gap ≡ no_gap

pub record IsStore (arena : Blocks) (ways : List Way) (heads : Heads) (slots : List Slot) : Type 0 where
  pub kept : IsKeptStore arena ways heads (lists_staged slots)
  pub sound : All (IsSoundSlot arena) slots
