use Rattle.std.proofs.Common.{◌≡◌, None, ℕ, ◌+◌, get_or, sym, ap, ◌∙◌, subst, arith}
use Rattle.cfdp_actions.specs.Filestore.{staged_in, blocks_of}
use Rattle.cfdp_actions.specs.Store.{overwritten}
use Rattle.cfdp_tree.specs.declared.contents.Contents.{Contents}
use Rattle.cfdp_tree.specs.code.Ways.{HasWays, KeepsWays}
use Rattle.cfdp_tree.proofs.OfStore.SeenLaws.{seen_staged, slot_filled, slot_ways, staged_size, staged_small}
use Rattle.cfdp_tree.proofs.OfStore.SlotLaws.{slot_changes, slot_store}
use Rattle.cfdp_tree.specs.code.Orders.{IsInOrders}
use Rattle.cfdp_tree.proofs.tree_store.TreeStoreFilestore.stage_put.Goals as goal

pub overflow_cast-at : goal.overflow_cast-at
overflow_cast-at c = omega (arith, c.requires.range, staged_small _ _ _ c.self.invariant.store _ c.self.view_is c.args.slot)

pub put-requires-clause-filled : goal.put-requires-clause-filled
put-requires-clause-filled c =
    slot_filled _ _ _ c.self.invariant.store _ c.self.view_is c.from.result
    (omega (arith, c.from.ensures, c.requires.slot)) c.index_mut-slot.result.now c.index_mut-slot.ensures.value

pub put-requires-clause-ways : goal.put-requires-clause-ways
put-requires-clause-ways c =
    let slot = c.index_mut-slot.result.now in
    subst (λ ws. HasWays c.self.inside.arena ws slot.contents.run) (sym c.deref.ensures.value)
    (slot_ways _ _ _ c.self.invariant.store _ c.self.view_is c.from.result (omega (arith, c.from.ensures, c.requires.slot)) slot c.index_mut-slot.ensures.value)

pub put-requires-clause-range : goal.put-requires-clause-range
put-requires-clause-range c =
    let slot = c.index_mut-slot.result.now in let is = subst (λ k. slot ≡ get_or c.self.inside.slots.items k slot) c.from.ensures
    c.index_mut-slot.ensures.value in
    omega (arith, staged_size _ _ _ c.self.invariant.store _ c.self.view_is c.args.slot c.requires.slot slot is, c.requires.range)

-- no block is taken
same_taken : (free was : ℕ) (before after : Contents) → free ≡ was → after.size ≡ before.size → free + blocks_of after.size ≡ was + blocks_of before.size
same_taken free was before after kept same = (λ k. kept k + blocks_of (same k))

pub invariant_of-self : goal.invariant_of-self
invariant_of-self c =
    let after = c.put.ensures in
    record {
      store = slot_store c.self.inside.arena c.put.new.arena c.self.inside.heads.items c.self.inside.slots.items c.self.invariant.store c.from.result
          (omega (arith, c.from.ensures, c.requires.slot))
          c.index_mut-slot.result.now c.index_mut-slot.ensures.value c.put.new.self after.nodes after.capacity after.spares after.filled after.sound
          (same_taken _ _ c.index_mut-slot.result.now.contents c.put.new.self.contents after.free after.size)
          c.self.inside.ways.items (subst (λ ws. HasWays c.put.new.arena ws c.put.new.self.contents.run) c.deref.ensures.value after.ways)
          (subst (λ ws. KeepsWays c.self.inside.arena c.put.new.arena ws ws c.index_mut-slot.result.now.contents.run) c.deref.ensures.value after.other_ways);
      ordered = subst (λ ns. IsInOrders ns c.self.inside.orders None) (sym after.nodes) c.self.invariant.ordered;
    }

pub returns : goal.returns
returns c =
    let after = c.put.ensures in
    let slot = c.index_mut-slot.result.now in let is = subst (λ k. slot ≡ get_or c.self.inside.slots.items k slot) c.from.ensures
    c.index_mut-slot.ensures.value in
    let was = seen_staged _ _ _ c.self.invariant.store _ c.self.view_is c.args.slot c.requires.slot slot is in
    slot_changes c.self.inside.arena c.put.new.arena c.self.inside.heads.items c.self.inside.slots.items c.self.invariant.store c.from.result
    (omega (arith, c.from.ensures, c.requires.slot))
    slot c.index_mut-slot.ensures.value c.put.new.self after.nodes after.capacity after.spares after.filled after.sound
    (same_taken _ _ slot.contents c.put.new.self.contents after.free after.size)
    c.args.self.now c.self.view_is c.args.slot c.from.ensures (overwritten (staged_in c.args.self.now.filestore c.args.slot) c.args.at c.args.octets.now)
    (after.octets ∙ ap (λ list. overwritten list c.args.at c.args.octets.now) (sym was))
