use Rattle.std.proofs.Common.{◌≡◌, ℕ, ◌+◌, ◌-◌, ◌≤◌, max, refl, sym, ap, ◌∙◌, subst, arith}
use Rattle.cfdp_arena.specs.Arena.{Blocks}
use Rattle.cfdp_order.specs.declared.links.Order.{Order}
use Rattle.cfdp_tree.specs.declared.orders.Orders.{Orders}
use Rattle.cfdp_order.specs.Orders.{nodes, left_of, right_of, IsOrder}
use Rattle.cfdp_tree.specs.code.Nodes.{nodes_in}
use Rattle.cfdp_tree.specs.code.Walk.{walks_at, most_names_in, AreAtDepth}
use Rattle.cfdp_tree.proofs.OfWalks.WalkLaws.{filled, read_parts, top_inside, falls_below, no_walk, names_few}
use Rattle.cfdp_tree.proofs.walk.+deepest_in.Goals as goal
use Rattle.cfdp_tree.proofs.walk.+deepest_in.Goals.{then-is_empty-2, else-is_empty-2, then-is_empty-3, else-is_empty-3, then-is_empty-4, else-is_empty-4}

pub returns-then-is_empty-clause-value : goal.returns-then-is_empty-clause-value
returns-then-is_empty-clause-value t c =
    ap (most_names_in (nodes_in c.args.arena.now)) (sym (no_walk c.args.orders.now (9 - c.args.depth) c.args.order (c.is_empty.ensures.0 c.if-is_empty.true)))

pub index-requires : goal.index-requires
index-requires t c =
    let top = top_inside c.args.arena.now c.requires.tree c.args.orders.now c.requires.ordered c.free-free.ensures.capacity.1 c.args.order c.args.depth
    c.requires.order (filled c.is_empty.result c.args.order.height c.if-is_empty.false c.is_empty.ensures.1) c.requires.deep in
    omega (arith, c.from.ensures, top.0, c.args.orders.now.links.ok.0)

pub index-requires-2 : goal.index-requires-2
index-requires-2 t c =
    let top = top_inside c.args.arena.now c.requires.tree c.args.orders.now c.requires.ordered c.free-free.ensures.capacity.1 c.args.order c.args.depth
    c.requires.order (filled c.is_empty.result c.args.order.height c.if-is_empty.false c.is_empty.ensures.1) c.requires.deep in
    omega (arith, c.from-2.ensures, top.1, c.args.orders.now.directories.ok.0)

pub overflow_add-depth : goal.overflow_add-depth
overflow_add-depth t c =
    let p = read_parts c.args.arena.now c.requires.tree c.args.orders.now c.requires.ordered c.free-free.ensures.capacity.1 c.args.order c.args.depth
    c.requires.order (filled c.is_empty.result c.args.order.height c.if-is_empty.false c.is_empty.ensures.1) c.requires.deep
    c.from.result c.from-2.result c.from.ensures c.from-2.ensures c.index.result.now c.index-2.result.now c.index.ensures c.index-2.ensures in
    omega (arith, p.few)

pub deepest_in-before-requires : goal.deepest_in-before-requires
deepest_in-before-requires t c =
    let p = read_parts c.args.arena.now c.requires.tree c.args.orders.now c.requires.ordered c.free-free.ensures.capacity.1 c.args.order c.args.depth
    c.requires.order (filled c.is_empty.result c.args.order.height c.if-is_empty.false c.is_empty.ensures.1) c.requires.deep
    c.from.result c.from-2.result c.from.ensures c.from-2.ensures c.index.result.now c.index-2.result.now c.index.ensures c.index-2.ensures in (
      omega (arith, c.decreases, p.low_before, ap (λ (o : Order). o.height) c.left-left.ensures),
      (
        c.requires.tree,
        (
          c.requires.ordered,
          (
            subst (λ (o : Order). IsOrder c.args.orders.now.links.items o) (sym c.left-left.ensures) p.is_before,
            subst (λ (o : Order). AreAtDepth (nodes_in c.args.arena.now) c.args.depth (nodes c.args.orders.now.links.items o))
                (sym c.left-left.ensures) p.deep_before,
          ),
        ),
      ),
    )

pub deepest_in-below-requires : goal.deepest_in-below-requires
deepest_in-below-requires t c =
    let p = read_parts c.args.arena.now c.requires.tree c.args.orders.now c.requires.ordered c.free-free.ensures.capacity.1 c.args.order c.args.depth
    c.requires.order (filled c.is_empty.result c.args.order.height c.if-is_empty.false c.is_empty.ensures.1) c.requires.deep
    c.from.result c.from-2.result c.from.ensures c.from-2.ensures c.index.result.now c.index-2.result.now c.index.ensures c.index-2.ensures in (
      omega (
        arith,
        c.decreases,
        falls_below c.args.depth c.index-2.result.now.height c.args.order.height p.few p.low_below
            (filled c.is_empty.result c.args.order.height c.if-is_empty.false c.is_empty.ensures.1),
      ),
      (c.requires.tree, (c.requires.ordered, (p.is_below, p.deep_below))),
    )

pub deepest_in-after-requires : goal.deepest_in-after-requires
deepest_in-after-requires t c =
    let p = read_parts c.args.arena.now c.requires.tree c.args.orders.now c.requires.ordered c.free-free.ensures.capacity.1 c.args.order c.args.depth
    c.requires.order (filled c.is_empty.result c.args.order.height c.if-is_empty.false c.is_empty.ensures.1) c.requires.deep
    c.from.result c.from-2.result c.from.ensures c.from-2.ensures c.index.result.now c.index-2.result.now c.index.ensures c.index-2.ensures in (
      omega (arith, c.decreases, p.low_after, ap (λ (o : Order). o.height) c.right-right.ensures),
      (
        c.requires.tree,
        (
          c.requires.ordered,
          (
            subst (λ (o : Order). IsOrder c.args.orders.now.links.items o) (sym c.right-right.ensures) p.is_after,
            subst (λ (o : Order). AreAtDepth (nodes_in c.args.arena.now) c.args.depth (nodes c.args.orders.now.links.items o))
                (sym c.right-right.ensures) p.deep_after,
          ),
        ),
      ),
    )

-- what a part adds: nothing if it is empty
abbrev PartAdds : Blocks → Orders → ℕ → Order → ℕ → Type 0
PartAdds now orders depth part value = (value ≡ most_names_in now (walks_at orders depth (nodes orders.links.items part))) × (value ≤ 8)

none_stated : (now : Blocks) (orders : Orders) (depth : ℕ) (part : Order) (value : ℕ) → value ≡ 0 → part.height ≡ 0 → PartAdds now orders depth part value
none_stated now orders depth part value zero empty = (zero ∙ ap (most_names_in now) (sym (no_walk orders (9 - depth) part empty)), omega (arith, zero))

some_stated : (now : Blocks) (orders : Orders) (depth : ℕ) (part other : Order) (value result : ℕ) → value ≡ result → part ≡ other →
    PartAdds now orders depth part result → PartAdds now orders depth other value
some_stated now orders depth part other value result is same described =
    (is ∙ described.0 ∙ ap (λ (o : Order). most_names_in now (walks_at orders depth (nodes orders.links.items o))) same, omega (arith, is, described.1))

none_at : (now : Blocks) (orders : Orders) (depth : ℕ) (part other : Order) (value : ℕ) → value ≡ 0 → part ≡ other → part.height ≡ 0 →
    PartAdds now orders depth other value
none_at now orders depth part other value zero same empty = none_stated now orders depth other value zero (sym (ap (λ (o : Order). o.height) same) ∙ empty)

-- nothing is longer than 8 names
full : (depth below before after here whole : ℕ) → here ≡ max depth below → here ≡ 8 → whole ≡ max (max (max depth below) before) after → whole ≤ 8
    → here ≡ whole
full depth below before after here whole h all w few = grind (arith, h, all, w, few)

full_left : (depth below before after here sofar whole : ℕ) → here ≡ max depth below → sofar ≡ max here before → sofar ≡ 8
    → whole ≡ max (max (max depth below) before) after → whole ≤ 8 → sofar ≡ whole
full_left depth below before after here sofar whole h s all w few = grind (arith, h, s, all, w, few)

joined : (depth below before after here sofar result whole : ℕ) → here ≡ max depth below → sofar ≡ max here before → result ≡ max sofar after
    → whole ≡ max (max (max depth below) before) after → result ≡ whole
joined depth below before after here sofar result whole h s r w = grind (arith, h, s, r, w)

pub returns-then-here-eq-MOST_NAMES-clause-value : goal.returns-then-here-eq-MOST_NAMES-clause-value
returns-then-here-eq-MOST_NAMES-clause-value t c =
    let now = nodes_in c.args.arena.now in let orders = c.args.orders.now in let depth = c.args.depth in
    let p = read_parts c.args.arena.now c.requires.tree c.args.orders.now c.requires.ordered c.free-free.ensures.capacity.1 c.args.order c.args.depth
    c.requires.order (filled c.is_empty.result c.args.order.height c.if-is_empty.false c.is_empty.ensures.1) c.requires.deep
    c.from.result c.from-2.result c.from.ensures c.from-2.ensures c.index.result.now c.index-2.result.now c.index.ensures c.index-2.ensures in
    let below : PartAdds now orders (depth + 1) c.index-2.result.now c.if-is_empty-2.below = elim c.if-is_empty-2.branch [
      | then-is_empty-2 w ↦ none_stated now orders (depth + 1) c.index-2.result.now c.if-is_empty-2.below w.below-is
          (c.is_empty-2.ensures.0 w.if-is_empty-2.true)
      | else-is_empty-2 w ↦ some_stated now orders (depth + 1) c.index-2.result.now c.index-2.result.now c.if-is_empty-2.below w.deepest_in-below.result
          w.below-is refl (w.deepest_in-below.ensures.value, w.deepest_in-below.ensures.within)
    ] in
    full _ _ _ _ _ _ (c.max-here.ensures ∙ ap (max depth) below.0) c.if-here-eq-MOST_NAMES.true p.longest_is
    (names_few now (walks_at orders depth (nodes orders.links.items c.args.order)))

pub returns-then-sofar-eq-MOST_NAMES-clause-value : goal.returns-then-sofar-eq-MOST_NAMES-clause-value
returns-then-sofar-eq-MOST_NAMES-clause-value t c =
    let now = nodes_in c.args.arena.now in let orders = c.args.orders.now in let depth = c.args.depth in
    let p = read_parts c.args.arena.now c.requires.tree c.args.orders.now c.requires.ordered c.free-free.ensures.capacity.1 c.args.order c.args.depth
    c.requires.order (filled c.is_empty.result c.args.order.height c.if-is_empty.false c.is_empty.ensures.1) c.requires.deep
    c.from.result c.from-2.result c.from.ensures c.from-2.ensures c.index.result.now c.index-2.result.now c.index.ensures c.index-2.ensures in
    let below : PartAdds now orders (depth + 1) c.index-2.result.now c.if-is_empty-2.below = elim c.if-is_empty-2.branch [
      | then-is_empty-2 w ↦ none_stated now orders (depth + 1) c.index-2.result.now c.if-is_empty-2.below w.below-is
          (c.is_empty-2.ensures.0 w.if-is_empty-2.true)
      | else-is_empty-2 w ↦ some_stated now orders (depth + 1) c.index-2.result.now c.index-2.result.now c.if-is_empty-2.below w.deepest_in-below.result
          w.below-is refl (w.deepest_in-below.ensures.value, w.deepest_in-below.ensures.within)
    ] in
    let before : PartAdds now orders depth (left_of c.index.result.now) c.if-is_empty-3.before = elim c.if-is_empty-3.branch [
      | then-is_empty-3 w ↦ none_at now orders depth c.left-left.result (left_of c.index.result.now) c.if-is_empty-3.before w.before-is c.left-left.ensures
          (c.is_empty-3.ensures.0 w.if-is_empty-3.true)
      | else-is_empty-3 w ↦ some_stated now orders depth c.left-left.result (left_of c.index.result.now) c.if-is_empty-3.before w.deepest_in-before.result
          w.before-is c.left-left.ensures (w.deepest_in-before.ensures.value, w.deepest_in-before.ensures.within)
    ] in
    full_left _ _ _ _ _ _ _ (c.max-here.ensures ∙ ap (max depth) below.0) (c.max-sofar.ensures ∙ ap (max c.max-here.result) before.0)
    c.if-sofar-eq-MOST_NAMES.true p.longest_is (names_few now (walks_at orders depth (nodes orders.links.items c.args.order)))

pub returns-clause-value : goal.returns-clause-value
returns-clause-value t c =
    let now = nodes_in c.args.arena.now in let orders = c.args.orders.now in let depth = c.args.depth in
    let p = read_parts c.args.arena.now c.requires.tree c.args.orders.now c.requires.ordered c.free-free.ensures.capacity.1 c.args.order c.args.depth
    c.requires.order (filled c.is_empty.result c.args.order.height c.if-is_empty.false c.is_empty.ensures.1) c.requires.deep
    c.from.result c.from-2.result c.from.ensures c.from-2.ensures c.index.result.now c.index-2.result.now c.index.ensures c.index-2.ensures in
    let below : PartAdds now orders (depth + 1) c.index-2.result.now c.if-is_empty-2.below = elim c.if-is_empty-2.branch [
      | then-is_empty-2 w ↦ none_stated now orders (depth + 1) c.index-2.result.now c.if-is_empty-2.below w.below-is
          (c.is_empty-2.ensures.0 w.if-is_empty-2.true)
      | else-is_empty-2 w ↦ some_stated now orders (depth + 1) c.index-2.result.now c.index-2.result.now c.if-is_empty-2.below w.deepest_in-below.result
          w.below-is refl (w.deepest_in-below.ensures.value, w.deepest_in-below.ensures.within)
    ] in
    let before : PartAdds now orders depth (left_of c.index.result.now) c.if-is_empty-3.before = elim c.if-is_empty-3.branch [
      | then-is_empty-3 w ↦ none_at now orders depth c.left-left.result (left_of c.index.result.now) c.if-is_empty-3.before w.before-is c.left-left.ensures
          (c.is_empty-3.ensures.0 w.if-is_empty-3.true)
      | else-is_empty-3 w ↦ some_stated now orders depth c.left-left.result (left_of c.index.result.now) c.if-is_empty-3.before w.deepest_in-before.result
          w.before-is c.left-left.ensures (w.deepest_in-before.ensures.value, w.deepest_in-before.ensures.within)
    ] in
    let after : PartAdds now orders depth (right_of c.index.result.now) c.if-is_empty-4.after = elim c.if-is_empty-4.branch [
      | then-is_empty-4 w ↦ none_at now orders depth c.right-right.result (right_of c.index.result.now) c.if-is_empty-4.after w.after-is c.right-right.ensures
          (c.is_empty-4.ensures.0 w.if-is_empty-4.true)
      | else-is_empty-4 w ↦ some_stated now orders depth c.right-right.result
          (right_of c.index.result.now) c.if-is_empty-4.after w.deepest_in-after.result w.after-is c.right-right.ensures (
            w.deepest_in-after.ensures.value,
            w.deepest_in-after.ensures.within,
          )
    ] in
    joined _ _ _ _ _ _ _ _ (c.max-here.ensures ∙ ap (max depth) below.0) (c.max-sofar.ensures ∙ ap (max c.max-here.result) before.0)
    (c.max.ensures ∙ ap (max c.max-sofar.result) after.0) p.longest_is

pub returns-clause-within : goal.returns-clause-within
returns-clause-within t c =
    let now = nodes_in c.args.arena.now in let orders = c.args.orders.now in let depth = c.args.depth in
    let p = read_parts c.args.arena.now c.requires.tree c.args.orders.now c.requires.ordered c.free-free.ensures.capacity.1 c.args.order c.args.depth
    c.requires.order (filled c.is_empty.result c.args.order.height c.if-is_empty.false c.is_empty.ensures.1) c.requires.deep
    c.from.result c.from-2.result c.from.ensures c.from-2.ensures c.index.result.now c.index-2.result.now c.index.ensures c.index-2.ensures in
    let below : c.if-is_empty-2.below ≤ 8 = elim c.if-is_empty-2.branch [
      | then-is_empty-2 w ↦ omega (arith, w.below-is)
      | else-is_empty-2 w ↦
          omega (arith, w.below-is, w.deepest_in-below.ensures.within)
    ] in
    let before : c.if-is_empty-3.before ≤ 8 = elim c.if-is_empty-3.branch [
      | then-is_empty-3 w ↦ omega (arith, w.before-is)
      | else-is_empty-3 w ↦
          omega (arith, w.before-is, w.deepest_in-before.ensures.within)
    ] in
    let after : c.if-is_empty-4.after ≤ 8 = elim c.if-is_empty-4.branch [
      | then-is_empty-4 w ↦ omega (arith, w.after-is)
      | else-is_empty-4 w ↦
          omega (arith, w.after-is, w.deepest_in-after.ensures.within)
    ] in
    grind (arith, c.max.ensures, c.max-sofar.ensures, c.max-here.ensures, p.few, before, below, after)
