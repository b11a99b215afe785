use Rattle.std.proofs.Common.{◌≡◌, None, ◌+◌, ℕ, [], get_or, sym, ap, ◌∙◌, subst, arith}
use Rattle.cfdp_arena.specs.Arena.{Blocks}
use Rattle.cfdp_actions.specs.Filestore.{blocks_of}
use Rattle.cfdp_tree.specs.declared.contents.Contents.{Contents}
use Rattle.cfdp_tree.specs.declared.runs.Run.{Run}
use Rattle.cfdp_tree.specs.declared.slots.Slot.{Slot}
use Rattle.cfdp_tree.specs.code.Runs.{Spares}
use Rattle.cfdp_tree.specs.code.Slots.{no_gap, IsSoundSlot}
use Rattle.cfdp_tree.proofs.OfRuns.Filling.{blocks_of-none}
use Rattle.cfdp_tree.proofs.OfRuns.ContentsLaws.{none_filled, none_contents}
use Rattle.cfdp_tree.proofs.OfStore.SlotCursors.{slot_starts}
use Rattle.cfdp_tree.proofs.OfStore.SeenLaws.{slot_filled, slot_ways, staged_size}
use Rattle.cfdp_tree.proofs.OfStore.SlotLaws.{slot_changes, slot_store}
use Rattle.cfdp_tree.proofs.OfRuns.WayLaws.{ways_none, keeps_still}
use Rattle.cfdp_tree.specs.code.Orders.{IsInOrders}
use Rattle.cfdp_tree.proofs.tree_store.TreeStoreFilestore.unstage.Goals as goal

-- a run of no blocks is apart from each other one
spares_none : (old new : Blocks) (before after none : Run) → none.count ≡ 0 → Spares old new before after → Spares old new before none
spares_none old new before after none empty spares other held apart = ((spares other held apart).0, (λ some. absurd (omega arith)))

-- an empty list instead of one whose blocks were given back
module _ (old new : Blocks) (slot after : Slot) (no_blocks : after.contents.run.count ≡ 0) (no_octets : after.contents.size ≡ 0) where
  no_room : (free was : ℕ) → free ≡ was + blocks_of slot.contents.size → free + blocks_of after.contents.size ≡ was + blocks_of slot.contents.size
  no_room free was freed = omega (arith, freed, blocks_of-none after.contents.size no_octets)

-- a slot that holds no octets
record IsEmptied (arena : Blocks) (after : Slot) : Type 0 where
  blocks : after.contents.run.count ≡ 0
  size : after.contents.size ≡ 0
  sum : after.contents.sum ≡ 0
  sound : IsSoundSlot arena after

emptied : (none : Contents) (after : Slot) → none.run.count ≡ 0 → none.size ≡ 0 → none.sum ≡ 0 → after.contents ≡ none → after.cursor.block ≡ none.run.first →
    after.cursor.index ≡ 0 → after.blank_from ≡ none.size → after.gap ≡ no_gap
    → (arena : Blocks) → IsEmptied arena after
emptied none after blocks size sum holds block index blank gap arena = record {
  blocks = ap (λ (x : Contents). x.run.count) holds ∙ blocks;
  size = ap (λ (x : Contents). x.size) holds ∙ size;
  sum = ap (λ (x : Contents). x.sum) holds ∙ sum;
  sound = slot_starts arena after (block ∙ ap (λ (x : Contents). x.run.first) (sym holds)) index (blank ∙ ap (λ (x : Contents). x.size) (sym holds)) gap;
}

pub release-requires : goal.release-requires
release-requires c = record {
  filled = slot_filled _ _ _ c.self.invariant.store _ c.self.view_is c.from-index.result
      (omega (arith, c.from-index.ensures, c.requires)) c.index.result.now c.index.ensures;
}

pub invariant_of-self : goal.invariant_of-self
invariant_of-self c =
    let arena = c.self.inside.arena in let later = c.release.new.arena in let slot = c.index.result.now in let after = c.hold.new.self in let gone =
    c.release.ensures in
    let none = emptied c.empty.result after c.empty.ensures.blocks c.empty.ensures.size c.empty.ensures.sum c.hold.ensures.contents c.hold.ensures.block
    c.hold.ensures.index c.hold.ensures.blank c.hold.ensures.gap later in
    let had = slot_ways _ _ _ c.self.invariant.store _ c.self.view_is c.from-index.result
    (omega (arith, c.from-index.ensures, c.requires)) slot c.index.ensures in
    record {
      store = slot_store arena later c.self.inside.heads.items c.self.inside.slots.items c.self.invariant.store c.from-index.result
          (omega (arith, c.from-index.ensures, c.requires)) slot c.index.ensures after
          gone.nodes gone.capacity (spares_none arena later slot.contents.run slot.contents.run after.contents.run none.blocks gone.spares)
          (none_filled later after.contents none.blocks none.size none.sum) none.sound (no_room arena later slot after none.blocks none.size _ _ gone.freed)
          c.self.inside.ways.items (ways_none later c.self.inside.ways.items after.contents.run (had.long ∙ sym gone.capacity) none.blocks)
          (keeps_still arena later c.self.inside.ways.items slot.contents.run slot.contents.run gone.capacity gone.spares);
      ordered = subst (λ ns. IsInOrders ns c.self.inside.orders None) (sym gone.nodes) c.self.invariant.ordered;
    }

pub returns-clause-ticks : goal.returns-clause-ticks
returns-clause-ticks c =
    let slot = c.index.result.now in let is = subst (λ k. slot ≡ get_or c.self.inside.slots.items k slot) c.from-index.ensures c.index.ensures in
    let filled = slot_filled _ _ _ c.self.invariant.store _ c.self.view_is c.args.slot c.requires slot is in
    filled.blocks ∙ ap blocks_of (sym (staged_size _ _ _ c.self.invariant.store _ c.self.view_is c.args.slot c.requires slot is))

pub returns-clause-dropped : goal.returns-clause-dropped
returns-clause-dropped c =
    let arena = c.self.inside.arena in let later = c.release.new.arena in let slot = c.index.result.now in let after = c.hold.new.self in let gone =
    c.release.ensures in
    let none = emptied c.empty.result after c.empty.ensures.blocks c.empty.ensures.size c.empty.ensures.sum c.hold.ensures.contents c.hold.ensures.block
    c.hold.ensures.index c.hold.ensures.blank c.hold.ensures.gap later in
    slot_changes arena later c.self.inside.heads.items c.self.inside.slots.items c.self.invariant.store c.from-index.result
    (omega (arith, c.from-index.ensures, c.requires)) slot c.index.ensures after
    gone.nodes gone.capacity (spares_none arena later slot.contents.run slot.contents.run after.contents.run none.blocks gone.spares)
    (none_filled later after.contents none.blocks none.size none.sum) none.sound (no_room arena later slot after none.blocks none.size _ _ gone.freed)
    c.args.self.now c.self.view_is c.args.slot c.from-index.ensures [] (none_contents later after.contents none.blocks none.size)
