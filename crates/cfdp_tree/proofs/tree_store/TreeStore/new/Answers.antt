use Rattle.std.proofs.Common.{◌≡◌, List, None, length, vec_len, sym, ap, ◌∙◌, subst, arith}
use Rattle.std.proofs.lemmas.List.{length-replicate}
use Rattle.cfdp_ways.specs.declared.way.Way.{Way}
use Rattle.cfdp_tree.specs.code.Kept.{store_of}
use Rattle.cfdp_tree.specs.code.Slots.{lists_staged, IsStore}
use Rattle.cfdp_tree.specs.code.Nodes.{nodes_in}
use Rattle.cfdp_tree.specs.code.Orders.{IsInOrders}
use Rattle.cfdp_tree.proofs.OfStore.NewLaws.{head_none, filled_up, new_view, new_store, new_orders}
use Rattle.cfdp_tree.proofs.tree_store.TreeStore.new.Goals as goal

pub invariant_of-result : goal.invariant_of-result
invariant_of-result c =
    let slots = c.loop-slot.slots in let made = c.loop-slot.invariant in
    let head = head_none c.empty.result c.empty.ensures.first c.empty.ensures.listed c.empty.ensures.unlisted in
    let heads = filled_up c.args.blocks (vec_len c.new-heads.result) c.empty.result c.new-heads.result.items c.resize-2.new.self.items
    c.in_ok-resize-2.ensures.items c.new-heads.ensures.items c.new-heads.ensures.len in
    let many : length slots.items ≡ 64 = omega (arith, slots.ok.0, made.many, c.loop-slot-test.false, c.loop-slot.auto._slot-end) in
    let ways = filled_up c.args.blocks (vec_len c.new-ways.result) c.none.result c.new-ways.result.items c.resize.new.self.items c.in_ok-resize.ensures.items
    c.new-ways.ensures.items c.new-ways.ensures.len in
    let ways_long : length c.resize.new.self.items ≡ c.args.blocks = ap (λ (ws : List Way). length ws) ways
    ∙ length-replicate {A = Way} c.args.blocks c.none.result in
    record {
      store = subst (λ a. IsStore a c.resize.new.self.items c.resize-2.new.self.items slots.items) (sym c.in_ok-arena.ensures.all_free)
          (new_store c.args.blocks c.requires.some c.requires.few c.resize-2.new.self.items c.empty.result heads head slots.items many made.fresh
          c.resize.new.self.items ways_long);
      ordered = subst (λ a. IsInOrders (nodes_in a) c.in_ok-orders.orders None) (sym c.in_ok-arena.ensures.all_free)
          (new_orders c.args.blocks c.requires.some c.requires.few c.resize-2.new.self.items c.empty.result heads head slots.items many made.fresh
          c.in_ok-orders.orders
          c.in_ok-orders.ensures.links c.in_ok-orders.ensures.directories c.in_ok-orders.ensures.empty);
    }

pub returns : goal.returns
returns c =
    let slots = c.loop-slot.slots in let made = c.loop-slot.invariant in
    let head = head_none c.empty.result c.empty.ensures.first c.empty.ensures.listed c.empty.ensures.unlisted in
    let heads = filled_up c.args.blocks (vec_len c.new-heads.result) c.empty.result c.new-heads.result.items c.resize-2.new.self.items
    c.in_ok-resize-2.ensures.items c.new-heads.ensures.items c.new-heads.ensures.len in
    let many : length slots.items ≡ 64 = omega (arith, slots.ok.0, made.many, c.loop-slot-test.false, c.loop-slot.auto._slot-end) in
    ap (λ a. store_of a (lists_staged slots.items)) c.in_ok-arena.ensures.all_free
    ∙ new_view c.args.blocks c.requires.some c.requires.few c.resize-2.new.self.items c.empty.result heads head slots.items many made.fresh
