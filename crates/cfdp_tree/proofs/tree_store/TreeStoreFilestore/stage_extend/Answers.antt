use Rattle.std.proofs.Common.{◌≡◌, None, get_or, set, sym, ap, ◌∙◌, subst, arith}
use Rattle.cfdp_actions.specs.Filestore.{staged_in, blocks_of}
use Rattle.cfdp_actions.specs.Store.{extended}
use Rattle.cfdp_actions.proofs.RowLaws.{blocks_of-mono}
use Rattle.std.proofs.lemmas.List.{with_items_is}
use Rattle.cfdp_tree.specs.code.Ways.{HasWays, KeepsWays}
use Rattle.cfdp_tree.specs.code.Slots.{IsStore}
use Rattle.cfdp_tree.proofs.OfRuns.Filling.{taken_as}
use Rattle.cfdp_tree.proofs.OfStore.SeenLaws.{seen_staged, slot_filled, slot_ways, staged_size, room_there, size_fits}
use Rattle.cfdp_tree.proofs.OfStore.SlotLaws.{slot_changes, slot_store}
use Rattle.cfdp_tree.specs.code.Orders.{IsInOrders}
use Rattle.cfdp_tree.proofs.tree_store.TreeStoreFilestore.stage_extend.Goals as goal

pub overflow_cast-size : goal.overflow_cast-size
overflow_cast-size c =
    let slot = c.index_mut-slot.result.now in let is = subst (λ k. slot ≡ get_or c.self.inside.slots.items k slot) c.from.ensures
    c.index_mut-slot.ensures.value in
    let few = size_fits _ _ _ c.self.invariant.store _ c.self.view_is c.args.slot c.requires.slot slot is c.args.size c.requires.room in omega arith

pub extend-requires-clause-filled : goal.extend-requires-clause-filled
extend-requires-clause-filled c =
    let slot = c.index_mut-slot.result.now in let is = subst (λ k. slot ≡ get_or c.self.inside.slots.items k slot) c.from.ensures
    c.index_mut-slot.ensures.value in
    slot_filled _ _ _ c.self.invariant.store _ c.self.view_is c.args.slot c.requires.slot slot is

pub extend-requires-clause-ways : goal.extend-requires-clause-ways
extend-requires-clause-ways c =
    let slot = c.index_mut-slot.result.now in let is = subst (λ k. slot ≡ get_or c.self.inside.slots.items k slot) c.from.ensures
    c.index_mut-slot.ensures.value in
    subst (λ ws. HasWays c.self.inside.arena ws slot.contents.run) (sym c.deref_mut.ensures.value)
    (slot_ways _ _ _ c.self.invariant.store _ c.self.view_is c.args.slot c.requires.slot slot is)

pub extend-requires-clause-longer : goal.extend-requires-clause-longer
extend-requires-clause-longer c =
    let slot = c.index_mut-slot.result.now in let is = subst (λ k. slot ≡ get_or c.self.inside.slots.items k slot) c.from.ensures
    c.index_mut-slot.ensures.value in
    omega (arith, staged_size _ _ _ c.self.invariant.store _ c.self.view_is c.args.slot c.requires.slot slot is, c.requires.longer)

pub extend-requires-clause-most : goal.extend-requires-clause-most
extend-requires-clause-most c =
    let slot = c.index_mut-slot.result.now in let is = subst (λ k. slot ≡ get_or c.self.inside.slots.items k slot) c.from.ensures
    c.index_mut-slot.ensures.value in
    size_fits _ _ _ c.self.invariant.store _ c.self.view_is c.args.slot c.requires.slot slot is c.args.size c.requires.room

pub extend-requires-clause-room : goal.extend-requires-clause-room
extend-requires-clause-room c =
    let slot = c.index_mut-slot.result.now in let is = subst (λ k. slot ≡ get_or c.self.inside.slots.items k slot) c.from.ensures
    c.index_mut-slot.ensures.value in
    room_there _ _ _ c.self.invariant.store _ c.self.view_is c.args.slot c.requires.slot slot is c.args.size c.requires.room

pub overflow_sub-result : goal.overflow_sub-result
overflow_sub-result c =
    let slot = c.index_mut-slot.result.now in let is = subst (λ k. slot ≡ get_or c.self.inside.slots.items k slot) c.from.ensures
    c.index_mut-slot.ensures.value in
    let filled = slot_filled _ _ _ c.self.invariant.store _ c.self.view_is c.args.slot c.requires.slot slot is in
    let size = staged_size _ _ _ c.self.invariant.store _ c.self.view_is c.args.slot c.requires.slot slot is in
    let more = blocks_of-mono slot.contents.size c.args.size (omega (arith, size, c.requires.longer)) in
    omega (arith, filled.blocks, c.extend.ensures.only.filled.blocks, ap blocks_of c.extend.ensures.size, more)

pub invariant_of-self : goal.invariant_of-self
invariant_of-self c =
    let after = c.extend.ensures in
    let ways = with_items_is c.self.inside.ways c.extend.new.ways (c.extend.auto.ways ∙ c.deref_mut.ensures.len) in
    record {
      store = subst (λ ws. IsStore c.extend.new.arena ws c.self.inside.heads.items (set c.self.inside.slots.items c.from.result c.extend.new.self)) (sym ways)
          (slot_store c.self.inside.arena c.extend.new.arena c.self.inside.heads.items c.self.inside.slots.items c.self.invariant.store c.from.result
          (omega (arith, c.from.ensures, c.requires.slot))
          c.index_mut-slot.result.now c.index_mut-slot.ensures.value c.extend.new.self
          after.only.nodes after.only.capacity after.only.spares after.only.filled after.sound
          (taken_as _ _ _ _ _ after.taken after.size)
          c.extend.new.ways after.only.ways
          (subst (λ ws. KeepsWays c.self.inside.arena c.extend.new.arena ws c.extend.new.ways c.index_mut-slot.result.now.contents.run)
          c.deref_mut.ensures.value after.only.other_ways));
      ordered = subst (λ ns. IsInOrders ns c.self.inside.orders None) (sym after.only.nodes) c.self.invariant.ordered;
    }

pub returns-clause-ticks : goal.returns-clause-ticks
returns-clause-ticks c =
    let slot = c.index_mut-slot.result.now in let is = subst (λ k. slot ≡ get_or c.self.inside.slots.items k slot) c.from.ensures
    c.index_mut-slot.ensures.value in
    let filled = slot_filled _ _ _ c.self.invariant.store _ c.self.view_is c.args.slot c.requires.slot slot is in
    let size = staged_size _ _ _ c.self.invariant.store _ c.self.view_is c.args.slot c.requires.slot slot is in
    omega (arith, filled.blocks, c.extend.ensures.only.filled.blocks, ap blocks_of c.extend.ensures.size, ap blocks_of size)

pub returns-clause-extended : goal.returns-clause-extended
returns-clause-extended c =
    let after = c.extend.ensures in
    let slot = c.index_mut-slot.result.now in let is = subst (λ k. slot ≡ get_or c.self.inside.slots.items k slot) c.from.ensures
    c.index_mut-slot.ensures.value in
    let was = seen_staged _ _ _ c.self.invariant.store _ c.self.view_is c.args.slot c.requires.slot slot is in
    slot_changes c.self.inside.arena c.extend.new.arena c.self.inside.heads.items c.self.inside.slots.items c.self.invariant.store c.from.result
    (omega (arith, c.from.ensures, c.requires.slot))
    slot c.index_mut-slot.ensures.value c.extend.new.self after.only.nodes after.only.capacity after.only.spares after.only.filled after.sound
    (taken_as _ _ _ _ _ after.taken after.size)
    c.args.self.now c.self.view_is c.args.slot c.from.ensures (extended (staged_in c.args.self.now.filestore c.args.slot) c.args.size)
    (after.octets ∙ ap (λ octets. extended octets c.args.size) (sym was))
