use Rattle.std.proofs.Common.{◌||◌, ◌+◌, length, refl, sym, ap, ◌∙◌, subst, arith}
use Rattle.std.specs.List.{list_any}
use Rattle.std.specs.Prelude.{AllPairs}
use Rattle.std.proofs.lemmas.Bool.{true≢false}
use Rattle.cfdp_order.specs.declared.links.Order.{Order}
use Rattle.cfdp_order.specs.Orders.{links_at, nodes, left_of, right_of, IsOrder}
use Rattle.cfdp_order.proofs.TreeLaws.{no_nodes, opened_at}
use Rattle.cfdp_paths.specs.Paths.{Path}
use Rattle.cfdp_tree.specs.code.Beside.{is_entry_beside}
use Rattle.cfdp_tree.specs.code.Nodes.{nodes_in}
use Rattle.cfdp_tree.specs.code.Orders.{Rises}
use Rattle.cfdp_tree.specs.code.Walk.{AreAtDepth}
use Rattle.cfdp_tree.proofs.OfOrders.SortLaws.{pairs_left, pairs_right}
use Rattle.cfdp_tree.proofs.OfWalks.LeftOutLaws.{any_parts, any_part, same_before, same_after, one_beside}
use Rattle.cfdp_tree.proofs.OfWalks.WalkLaws.{filled, read_around, top_inside}
use Rattle.cfdp_tree.proofs.beside.+any_beside.Goals as goal
use Rattle.cfdp_tree.proofs.beside.+any_beside.Goals.{then-any_beside, else-any_beside}

pub returns-then-is_empty : goal.returns-then-is_empty
returns-then-is_empty t c =
    ap (list_any (is_entry_beside c.args.others.now.directory.now c.args.others.now.paths.now (nodes_in c.args.arena.now)))
    (sym (no_nodes c.args.orders.now.links.items c.args.order (c.is_empty.ensures.0 c.if-is_empty.true)))

pub returns-then-is_empty-2 : goal.returns-then-is_empty-2
returns-then-is_empty-2 t c =
    let links = c.args.orders.now.links.items in
    let top = opened_at c.requires.order (filled c.is_empty.result c.args.order.height c.if-is_empty.false c.is_empty.ensures.1) refl in
    one_beside (nodes_in c.args.arena.now) c.args.others.now.directory.now c.args.others.now.paths.now
    (nodes links (left_of (links_at links c.args.order.root)))
    c.args.order.root (nodes links (right_of (links_at links c.args.order.root))) (nodes links c.args.order) top.listed
    (sym c.if-is_empty-2.true ∙ c.is_empty-2.ensures)

pub index-requires : goal.index-requires
index-requires t c =
    let top = top_inside c.args.arena.now c.requires.tree c.args.orders.now c.requires.ordered c.free-free.ensures.capacity.1 c.args.order
    (length c.args.others.now.directory.now + 1)
    c.requires.order (filled c.is_empty.result c.args.order.height c.if-is_empty.false c.is_empty.ensures.1) c.requires.deep in
    omega (arith, c.from.ensures, top.0, c.args.orders.now.links.ok.0)

pub around-parts-requires : goal.around-parts-requires
around-parts-requires t c =
    let p = read_around c.args.arena.now c.requires.tree c.args.orders.now c.requires.ordered c.free-free.ensures.capacity.1 c.args.order
    (length c.args.others.now.directory.now + 1)
    c.requires.order (filled c.is_empty.result c.args.order.height c.if-is_empty.false c.is_empty.ensures.1) c.requires.deep
    c.from.result c.from.ensures c.index.result.now c.index.ensures in
    record { node = p.top.node; named = c.requires.tree.named c.args.order.root p.top.node }

pub any_beside-requires : goal.any_beside-requires
any_beside-requires t c =
    let p = read_around c.args.arena.now c.requires.tree c.args.orders.now c.requires.ordered c.free-free.ensures.capacity.1 c.args.order
    (length c.args.others.now.directory.now + 1)
    c.requires.order (filled c.is_empty.result c.args.order.height c.if-is_empty.false c.is_empty.ensures.1) c.requires.deep
    c.from.result c.from.ensures c.index.result.now c.index.ensures in (
      omega (arith, c.decreases, p.low_before, ap (λ (o : Order). o.height) c.left.ensures),
      (
        c.requires.tree,
        (
          c.requires.ordered,
          (
            subst (λ (o : Order). IsOrder c.args.orders.now.links.items o) (sym c.left.ensures) p.is_before,
            (
              subst (λ (o : Order). AllPairs (Rises (nodes_in c.args.arena.now)) (nodes c.args.orders.now.links.items o)) (sym c.left.ensures)
                  (pairs_left (Rises (nodes_in c.args.arena.now)) (nodes c.args.orders.now.links.items (left_of c.index.result.now)) c.args.order.root
                  (nodes c.args.orders.now.links.items (right_of c.index.result.now))
                  (subst (AllPairs (Rises (nodes_in c.args.arena.now))) p.listed c.requires.rising)),
              subst (λ (d : Path). AreAtDepth (nodes_in c.args.arena.now) (length d + 1) (nodes c.args.orders.now.links.items c.left.result))
                  (sym c.around-parts.ensures.directory)
                  (subst (λ (o : Order). AreAtDepth (nodes_in c.args.arena.now) (length c.args.others.now.directory.now + 1)
                  (nodes c.args.orders.now.links.items o)) (sym c.left.ensures) p.deep_before),
            ),
          ),
        ),
      ),
    )

pub leaves-requires : goal.leaves-requires
leaves-requires t c =
    let p = read_around c.args.arena.now c.requires.tree c.args.orders.now c.requires.ordered c.free-free.ensures.capacity.1 c.args.order
    (length c.args.others.now.directory.now + 1)
    c.requires.order (filled c.is_empty.result c.args.order.height c.if-is_empty.false c.is_empty.ensures.1) c.requires.deep
    c.from.result c.from.ensures c.index.result.now c.index.ensures in
    record { node = p.top.node; named = c.requires.tree.named c.args.order.root p.top.node }

pub any_beside-requires-else-leaves : goal.any_beside-requires-else-leaves
any_beside-requires-else-leaves t c =
    let p = read_around c.args.arena.now c.requires.tree c.args.orders.now c.requires.ordered c.free-free.ensures.capacity.1 c.args.order
    (length c.args.others.now.directory.now + 1)
    c.requires.order (filled c.is_empty.result c.args.order.height c.if-is_empty.false c.is_empty.ensures.1) c.requires.deep
    c.from.result c.from.ensures c.index.result.now c.index.ensures in (
      omega (arith, c.decreases, p.low_after, ap (λ (o : Order). o.height) c.right.ensures),
      (
        c.requires.tree,
        (
          c.requires.ordered,
          (
            subst (λ (o : Order). IsOrder c.args.orders.now.links.items o) (sym c.right.ensures) p.is_after,
            (
              subst (λ (o : Order). AllPairs (Rises (nodes_in c.args.arena.now)) (nodes c.args.orders.now.links.items o)) (sym c.right.ensures)
                  (pairs_right (Rises (nodes_in c.args.arena.now)) (nodes c.args.orders.now.links.items (left_of c.index.result.now)) c.args.order.root
                  (nodes c.args.orders.now.links.items (right_of c.index.result.now))
                  (subst (AllPairs (Rises (nodes_in c.args.arena.now))) p.listed c.requires.rising)),
              subst (λ (d : Path). AreAtDepth (nodes_in c.args.arena.now) (length d + 1) (nodes c.args.orders.now.links.items c.right.result))
                  (sym c.around-parts.ensures.one_directory)
                  (subst (λ (o : Order). AreAtDepth (nodes_in c.args.arena.now) (length c.args.others.now.directory.now + 1)
                  (nodes c.args.orders.now.links.items o)) (sym c.right.ensures) p.deep_after),
            ),
          ),
        ),
      ),
    )

pub returns-then-leaves : goal.returns-then-leaves
returns-then-leaves t c =
    let links = c.args.orders.now.links.items in let around = c.index.result.now in let root = c.args.order.root in
    let test = is_entry_beside c.args.others.now.directory.now c.args.others.now.paths.now (nodes_in c.args.arena.now) in
    let p = read_around c.args.arena.now c.requires.tree c.args.orders.now c.requires.ordered c.free-free.ensures.capacity.1 c.args.order
    (length c.args.others.now.directory.now + 1)
    c.requires.order (filled c.is_empty.result c.args.order.height c.if-is_empty.false c.is_empty.ensures.1) c.requires.deep
    c.from.result c.from.ensures c.index.result.now c.index.ensures in
    let parts = c.around-parts.result in let dir = c.args.others.now.directory.now in let others = c.args.others.now.paths.now in
    let now = nodes_in c.args.arena.now in let before = nodes links (left_of around) in let after = nodes links (right_of around) in
    let first = c.any_beside.ensures
    ∙ ap (λ (o : Order). list_any (is_entry_beside parts.before.directory.now parts.before.paths.now now) (nodes links o)) c.left.ensures
    ∙ any_part now dir parts.before.directory.now parts.before.paths.now others before c.around-parts.ensures.directory
    (same_before now dir parts.before.paths.now others before root after (nodes links c.args.order) p.listed c.requires.rising
    c.around-parts.ensures.before) in
    let top = ap (λ d. is_entry_beside d parts.at.paths.now now root) c.around-parts.ensures.same_directory ∙ c.around-parts.ensures.at in
    let whole = any_parts test (nodes links (left_of around)) root (nodes links (right_of around)) (nodes links c.args.order) p.listed in
    elim c.if-any_beside.branch [
      | then-any_beside w ↦ w.value-is ∙ w.if-any_beside.true
          ∙ sym (whole ∙ ap (λ b. b || (test root || list_any test (nodes links (right_of around)))) (sym first ∙ w.if-any_beside.true))
      | else-any_beside w ↦ c.if-leaves.true
          ∙ sym (whole ∙ (λ k. (sym first ∙ w.if-any_beside.false) k
          || ((sym (w.leaves.ensures ∙ top) ∙ sym w.value-is ∙ c.if-leaves.true) k || list_any test (nodes links (right_of around)))))
    ]

pub returns-else-leaves : goal.returns-else-leaves
returns-else-leaves t c =
    let links = c.args.orders.now.links.items in let around = c.index.result.now in let root = c.args.order.root in
    let test = is_entry_beside c.args.others.now.directory.now c.args.others.now.paths.now (nodes_in c.args.arena.now) in
    let p = read_around c.args.arena.now c.requires.tree c.args.orders.now c.requires.ordered c.free-free.ensures.capacity.1 c.args.order
    (length c.args.others.now.directory.now + 1)
    c.requires.order (filled c.is_empty.result c.args.order.height c.if-is_empty.false c.is_empty.ensures.1) c.requires.deep
    c.from.result c.from.ensures c.index.result.now c.index.ensures in
    let parts = c.around-parts.result in let dir = c.args.others.now.directory.now in let others = c.args.others.now.paths.now in
    let now = nodes_in c.args.arena.now in let before = nodes links (left_of around) in let after = nodes links (right_of around) in
    let first = c.any_beside.ensures
    ∙ ap (λ (o : Order). list_any (is_entry_beside parts.before.directory.now parts.before.paths.now now) (nodes links o)) c.left.ensures
    ∙ any_part now dir parts.before.directory.now parts.before.paths.now others before c.around-parts.ensures.directory
    (same_before now dir parts.before.paths.now others before root after (nodes links c.args.order) p.listed c.requires.rising
    c.around-parts.ensures.before) in
    let last = c.any_beside-else-leaves.ensures
    ∙ ap (λ (o : Order). list_any (is_entry_beside parts.after.directory.now parts.after.paths.now now) (nodes links o)) c.right.ensures
    ∙ any_part now dir parts.after.directory.now parts.after.paths.now others after c.around-parts.ensures.one_directory
    (same_after now dir parts.after.paths.now others before root after (nodes links c.args.order) p.listed c.requires.rising
    c.around-parts.ensures.after) in
    let top = ap (λ d. is_entry_beside d parts.at.paths.now now root) c.around-parts.ensures.same_directory ∙ c.around-parts.ensures.at in
    let whole = any_parts test (nodes links (left_of around)) root (nodes links (right_of around)) (nodes links c.args.order) p.listed in
    elim c.if-any_beside.branch [
      | then-any_beside w ↦ absurd (true≢false (sym w.if-any_beside.true ∙ sym w.value-is ∙ c.if-leaves.false))
      | else-any_beside w ↦ last
          ∙ sym (whole ∙ (λ k. (sym first ∙ w.if-any_beside.false) k
          || ((sym (w.leaves.ensures ∙ top) ∙ sym w.value-is ∙ c.if-leaves.false) k || list_any test (nodes links (right_of around)))))
    ]
