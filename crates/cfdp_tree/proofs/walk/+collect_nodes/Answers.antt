use Rattle.std.proofs.Common.{◌≡◌, ◌+◌, ◌-◌, ◌++◌, ℕ, List, [], ◌∷◌, Result, Ok, Err, sym, ap, ◌∙◌, subst, arith}
use Rattle.std.proofs.lemmas.List.{append-nil}
use Rattle.std.specs.Prelude.{OnOk}
use Rattle.cfdp_order.specs.declared.links.Order.{Order}
use Rattle.cfdp_order.specs.Orders.{nodes, left_of, IsOrder}
use Rattle.cfdp_tree.specs.code.Nodes.{nodes_in}
use Rattle.cfdp_tree.specs.code.Walk.{walks_at, AreAtDepth}
use Rattle.cfdp_tree.proofs.OfWalks.WalkLaws.{filled, read_parts, top_inside, falls_below, no_walk}
use Rattle.cfdp_tree.proofs.walk.+collect_nodes.Goals as goal

pub returns-then-is_empty : goal.returns-then-is_empty
returns-then-is_empty t c =
    let found = c.args.found.now.items in
    sym (append-nil found) ∙ ap (λ (xs : List ℕ). found ++ xs) (sym (no_walk c.args.orders.now (9 - c.args.depth) c.args.order
    (c.is_empty.ensures.0 c.if-is_empty.true)))

pub index-requires : goal.index-requires
index-requires t c =
    let top = top_inside c.args.arena.now c.requires.tree c.args.orders.now c.requires.ordered c.free-free.ensures.capacity.1 c.args.order c.args.depth
    c.requires.order (filled c.is_empty.result c.args.order.height c.if-is_empty.false c.is_empty.ensures.1) c.requires.deep in
    omega (arith, c.from.ensures, top.0, c.args.orders.now.links.ok.0)

pub index-entries-requires : goal.index-entries-requires
index-entries-requires t c =
    let top = top_inside c.args.arena.now c.requires.tree c.args.orders.now c.requires.ordered c.free-free.ensures.capacity.1 c.args.order c.args.depth
    c.requires.order (filled c.is_empty.result c.args.order.height c.if-is_empty.false c.is_empty.ensures.1) c.requires.deep in
    omega (arith, c.from-2.ensures, top.1, c.args.orders.now.directories.ok.0)

pub overflow_add-depth : goal.overflow_add-depth
overflow_add-depth t c =
    let p = read_parts c.args.arena.now c.requires.tree c.args.orders.now c.requires.ordered c.free-free.ensures.capacity.1 c.args.order c.args.depth
    c.requires.order (filled c.is_empty.result c.args.order.height c.if-is_empty.false c.is_empty.ensures.1) c.requires.deep
    c.from.result c.from-2.result c.from.ensures c.from-2.ensures c.index.result.now c.index-entries.result.now c.index.ensures c.index-entries.ensures in
    omega (arith, p.few)

pub collect_nodes-requires : goal.collect_nodes-requires
collect_nodes-requires t c =
    let p = read_parts c.args.arena.now c.requires.tree c.args.orders.now c.requires.ordered c.free-free.ensures.capacity.1 c.args.order c.args.depth
    c.requires.order (filled c.is_empty.result c.args.order.height c.if-is_empty.false c.is_empty.ensures.1) c.requires.deep
    c.from.result c.from-2.result c.from.ensures c.from-2.ensures c.index.result.now c.index-entries.result.now c.index.ensures c.index-entries.ensures in (
      omega (arith, c.decreases, p.low_before, ap (λ (o : Order). o.height) c.left.ensures),
      (
        c.requires.tree,
        (
          c.requires.ordered,
          (
            subst (λ (o : Order). IsOrder c.args.orders.now.links.items o) (sym c.left.ensures) p.is_before,
            subst (λ (o : Order). AreAtDepth (nodes_in c.args.arena.now) c.args.depth (nodes c.args.orders.now.links.items o)) (sym c.left.ensures)
                p.deep_before,
          ),
        ),
      ),
    )

pub collect_nodes-requires-2 : goal.collect_nodes-requires-2
collect_nodes-requires-2 t c =
    let p = read_parts c.args.arena.now c.requires.tree c.args.orders.now c.requires.ordered c.free-free.ensures.capacity.1 c.args.order c.args.depth
    c.requires.order (filled c.is_empty.result c.args.order.height c.if-is_empty.false c.is_empty.ensures.1) c.requires.deep
    c.from.result c.from-2.result c.from.ensures c.from-2.ensures c.index.result.now c.index-entries.result.now c.index.ensures c.index-entries.ensures in (
      omega (
        arith,
        c.decreases,
        falls_below c.args.depth c.index-entries.result.now.height c.args.order.height p.few p.low_below
            (filled c.is_empty.result c.args.order.height c.if-is_empty.false c.is_empty.ensures.1),
      ),
      (c.requires.tree, (c.requires.ordered, (p.is_below, p.deep_below))),
    )

pub collect_nodes-requires-3 : goal.collect_nodes-requires-3
collect_nodes-requires-3 t c =
    let p = read_parts c.args.arena.now c.requires.tree c.args.orders.now c.requires.ordered c.free-free.ensures.capacity.1 c.args.order c.args.depth
    c.requires.order (filled c.is_empty.result c.args.order.height c.if-is_empty.false c.is_empty.ensures.1) c.requires.deep
    c.from.result c.from-2.result c.from.ensures c.from-2.ensures c.index.result.now c.index-entries.result.now c.index.ensures c.index-entries.ensures in (
      omega (arith, c.decreases, p.low_after, ap (λ (o : Order). o.height) c.right.ensures),
      (
        c.requires.tree,
        (
          c.requires.ordered,
          (
            subst (λ (o : Order). IsOrder c.args.orders.now.links.items o) (sym c.right.ensures) p.is_after,
            subst (λ (o : Order). AreAtDepth (nodes_in c.args.arena.now) c.args.depth (nodes c.args.orders.now.links.items o)) (sym c.right.ensures)
                p.deep_after,
          ),
        ),
      ),
    )

-- what the last call adds
added : {A E : Type 0} (r : Result A E) (new was : List ℕ) (list : List ℕ) (whole : List ℕ) → OnOk r (new ≡ was ++ list) → was ++ list ≡ whole →
    OnOk r (new ≡ whole)
added (Ok x) new was list whole described same = described ∙ same
added (Err e) new was list whole described same = tt

pub returns : goal.returns
returns t c =
    let orders = c.args.orders.now in let depth = c.args.depth in let links = orders.links.items in let found = c.args.found.now.items in
    let p = read_parts c.args.arena.now c.requires.tree c.args.orders.now c.requires.ordered c.free-free.ensures.capacity.1 c.args.order c.args.depth
    c.requires.order (filled c.is_empty.result c.args.order.height c.if-is_empty.false c.is_empty.ensures.1) c.requires.deep
    c.from.result c.from-2.result c.from.ensures c.from-2.ensures c.index.result.now c.index-entries.result.now c.index.ensures c.index-entries.ensures in
    let before : c.collect_nodes.new.found.items ≡ found ++ walks_at orders depth (nodes links (left_of c.index.result.now)) =
    c.in_ok-collect_nodes.ensures ∙ ap (λ (o : Order). found ++ walks_at orders depth (nodes links o)) c.left.ensures in
    let number : c.of_number.result ≡ c.args.order.root = c.of_number.ensures.same_number ∙ c.from-3.ensures in
    let top : c.push.new.self.items ≡ (found ++ walks_at orders depth (nodes links (left_of c.index.result.now))) ++ c.args.order.root ∷ [] =
    c.in_ok-push.ensures.items ∙ (λ k. before k ++ number k ∷ []) in
    let below : c.collect_nodes-2.new.found.items
    ≡ ((found ++ walks_at orders depth (nodes links (left_of c.index.result.now))) ++ c.args.order.root ∷ [])
    ++ walks_at orders (depth + 1) (nodes links c.index-entries.result.now) =
    c.in_ok-collect_nodes-2.ensures ∙ ap (λ xs. xs ++ walks_at orders (depth + 1) (nodes links c.index-entries.result.now)) top in
    added c.collect_nodes-3.result c.collect_nodes-3.new.found.items c.collect_nodes-2.new.found.items (walks_at orders depth (nodes links c.right.result))
    (found ++ walks_at orders depth (nodes links c.args.order)) c.collect_nodes-3.ensures
    ((λ k. below k ++ walks_at orders depth (nodes links (c.right.ensures k))) ∙ sym (p.walk_is found))
