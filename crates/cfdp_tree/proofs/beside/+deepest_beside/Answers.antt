use Rattle.std.proofs.Common.{◌≡◌, ℕ, ◌+◌, ◌≤◌, max, List, [], ◌∷◌, length, refl, sym, ap, ◌∙◌, subst, arith}
use Rattle.std.proofs.lemmas.List.Elements.{All-nil, All-cons}
use Rattle.std.specs.Prelude.{All, AllPairs}
use Rattle.cfdp_arena.specs.Arena.{Blocks}
use Rattle.cfdp_paths.specs.Paths.{Path}
use Rattle.cfdp_tree.specs.declared.orders.Orders.{Orders}
use Rattle.cfdp_order.specs.declared.links.Order.{Order}
use Rattle.cfdp_order.specs.Orders.{nodes, left_of, right_of, IsOrder}
use Rattle.cfdp_order.proofs.TreeLaws.{no_nodes}
use Rattle.cfdp_tree.specs.code.Beside.{is_entry_beside, entries_beside}
use Rattle.cfdp_tree.specs.code.Nodes.{nodes_in}
use Rattle.cfdp_tree.specs.code.Orders.{Rises}
use Rattle.cfdp_tree.specs.code.Walk.{walks_at, most_names_in, IsAtDepth, AreAtDepth}
use Rattle.cfdp_tree.proofs.OfOrders.SortLaws.{pairs_left, pairs_right}
use Rattle.cfdp_tree.proofs.OfWalks.LeftOutLaws.{longest_apart, longest_few, longest_part, same_before, same_after, all_beside}
use Rattle.cfdp_tree.proofs.OfWalks.WalkLaws.{filled, read_around, top_inside}
use Rattle.cfdp_tree.proofs.beside.+deepest_beside.Goals as goal
use Rattle.cfdp_tree.proofs.beside.+deepest_beside.Goals.{then-is_empty-3, else-is_empty-3}

nothing : (n : ℕ) → n ≡ max n 0
nothing n = grind arith

pub returns-then-is_empty-clause-value : goal.returns-then-is_empty-clause-value
returns-then-is_empty-clause-value t c =
    let now = nodes_in c.args.arena.now in let dir = c.args.others.now.directory.now in
    nothing c.args.most
    ∙ ap (λ xs. max c.args.most (most_names_in now (walks_at c.args.orders.now (length dir + 1) (entries_beside dir c.args.others.now.paths.now now xs))))
    (sym (no_nodes c.args.orders.now.links.items c.args.order (c.is_empty.ensures.0 c.if-is_empty.true)))

pub returns-then-is_empty-2-clause-value : goal.returns-then-is_empty-2-clause-value
returns-then-is_empty-2-clause-value t c =
    let now = nodes_in c.args.arena.now in let orders = c.args.orders.now in let dir = c.args.others.now.directory.now in
    let list = nodes orders.links.items c.args.order in
    c.max.ensures ∙ ap (max c.args.most) (c.deepest_in.ensures.value
    ∙ ap (λ n. most_names_in now (walks_at orders (n + 1) list)) c.depth.ensures.depth
    ∙ ap (λ xs. most_names_in now (walks_at orders (length dir + 1) xs))
    (sym (all_beside now dir c.args.others.now.paths.now list (sym c.if-is_empty-2.true ∙ c.is_empty-2.ensures))))

pub index-requires : goal.index-requires
index-requires t c =
    let top = top_inside c.args.arena.now c.requires.tree c.args.orders.now c.requires.ordered c.free-free.ensures.capacity.1 c.args.order
    (length c.args.others.now.directory.now + 1)
    c.requires.order (filled c.is_empty.result c.args.order.height c.if-is_empty.false c.is_empty.ensures.1) c.requires.deep in
    omega (arith, c.from.ensures, top.0, c.args.orders.now.links.ok.0)

pub around-parts-requires : goal.around-parts-requires
around-parts-requires t c =
    let p = read_around c.args.arena.now c.requires.tree c.args.orders.now c.requires.ordered c.free-free.ensures.capacity.1 c.args.order
    (length c.args.others.now.directory.now + 1)
    c.requires.order (filled c.is_empty.result c.args.order.height c.if-is_empty.false c.is_empty.ensures.1) c.requires.deep
    c.from.result c.from.ensures c.index.result.now c.index.ensures in
    record { node = p.top.node; named = c.requires.tree.named c.args.order.root p.top.node }

pub deepest_beside-before-requires : goal.deepest_beside-before-requires
deepest_beside-before-requires t c =
    let p = read_around c.args.arena.now c.requires.tree c.args.orders.now c.requires.ordered c.free-free.ensures.capacity.1 c.args.order
    (length c.args.others.now.directory.now + 1)
    c.requires.order (filled c.is_empty.result c.args.order.height c.if-is_empty.false c.is_empty.ensures.1) c.requires.deep
    c.from.result c.from.ensures c.index.result.now c.index.ensures in (
      omega (arith, c.decreases, p.low_before, ap (λ (o : Order). o.height) c.left-left.ensures),
      (
        c.requires.tree,
        (
          c.requires.ordered,
          (
            subst (λ (o : Order). IsOrder c.args.orders.now.links.items o) (sym c.left-left.ensures) p.is_before,
            (
              subst (λ (o : Order). AllPairs (Rises (nodes_in c.args.arena.now)) (nodes c.args.orders.now.links.items o)) (sym c.left-left.ensures)
                  (pairs_left (Rises (nodes_in c.args.arena.now)) (nodes c.args.orders.now.links.items (left_of c.index.result.now)) c.args.order.root
                  (nodes c.args.orders.now.links.items (right_of c.index.result.now))
                  (subst (AllPairs (Rises (nodes_in c.args.arena.now))) p.listed c.requires.rising)),
              (
                subst (λ (d : Path). AreAtDepth (nodes_in c.args.arena.now) (length d + 1) (nodes c.args.orders.now.links.items c.left-left.result))
                    (sym c.around-parts.ensures.directory)
                    (subst (λ (o : Order). AreAtDepth (nodes_in c.args.arena.now) (length c.args.others.now.directory.now + 1)
                    (nodes c.args.orders.now.links.items o)) (sym c.left-left.ensures) p.deep_before),
                c.requires.most,
              ),
            ),
          ),
        ),
      ),
    )

pub deepest_at-sofar-requires-clause-deep : goal.deepest_at-sofar-requires-clause-deep
deepest_at-sofar-requires-clause-deep t c =
    let p = read_around c.args.arena.now c.requires.tree c.args.orders.now c.requires.ordered c.free-free.ensures.capacity.1 c.args.order
    (length c.args.others.now.directory.now + 1)
    c.requires.order (filled c.is_empty.result c.args.order.height c.if-is_empty.false c.is_empty.ensures.1) c.requires.deep
    c.from.result c.from.ensures c.index.result.now c.index.ensures in
    subst (λ (d : Path). IsAtDepth (nodes_in c.args.arena.now) (length d + 1) c.args.order.root) (sym c.around-parts.ensures.same_directory) p.top

pub deepest_beside-requires : goal.deepest_beside-requires
deepest_beside-requires t c =
    let p = read_around c.args.arena.now c.requires.tree c.args.orders.now c.requires.ordered c.free-free.ensures.capacity.1 c.args.order
    (length c.args.others.now.directory.now + 1)
    c.requires.order (filled c.is_empty.result c.args.order.height c.if-is_empty.false c.is_empty.ensures.1) c.requires.deep
    c.from.result c.from.ensures c.index.result.now c.index.ensures in (
      omega (arith, c.decreases, p.low_after, ap (λ (o : Order). o.height) c.right-right.ensures),
      (
        c.requires.tree,
        (
          c.requires.ordered,
          (
            subst (λ (o : Order). IsOrder c.args.orders.now.links.items o) (sym c.right-right.ensures) p.is_after,
            (
              subst (λ (o : Order). AllPairs (Rises (nodes_in c.args.arena.now)) (nodes c.args.orders.now.links.items o)) (sym c.right-right.ensures)
                  (pairs_right (Rises (nodes_in c.args.arena.now)) (nodes c.args.orders.now.links.items (left_of c.index.result.now)) c.args.order.root
                  (nodes c.args.orders.now.links.items (right_of c.index.result.now))
                  (subst (AllPairs (Rises (nodes_in c.args.arena.now))) p.listed c.requires.rising)),
              (
                subst (λ (d : Path). AreAtDepth (nodes_in c.args.arena.now) (length d + 1) (nodes c.args.orders.now.links.items c.right-right.result))
                    (sym c.around-parts.ensures.one_directory)
                    (subst (λ (o : Order). AreAtDepth (nodes_in c.args.arena.now) (length c.args.others.now.directory.now + 1)
                    (nodes c.args.orders.now.links.items o)) (sym c.right-right.ensures) p.deep_after),
                c.deepest_at-sofar.ensures.within,
              ),
            ),
          ),
        ),
      ),
    )

-- the whole of what is before a node, at it and after it
full : (most before left rest whole : ℕ) → before ≡ max most left → before ≡ 8 → whole ≡ max left rest → whole ≤ 8 → before ≡ max most whole
full most before left rest whole b all w few = grind (arith, b, all, w, few)

joined : (most before sofar result left one right whole : ℕ) → before ≡ max most left → sofar ≡ max before one → result ≡ max sofar right →
    whole ≡ max left (max one right) → result ≡ max most whole
joined most before sofar result left one right whole b s r w = grind (arith, b, s, r, w)

-- the longest path at and below the entries in an order
abbrev Longest : Blocks → Orders → Path → List Path → ℕ → Order → ℕ
Longest now orders dir others depth order = most_names_in now (walks_at orders depth (entries_beside dir others now (nodes orders.links.items order)))

-- the longest so far and that of a part, which is empty or is not
none_at : (now : Blocks) (orders : Orders) (dir : Path) (others : List Path) (depth most : ℕ) (part other : Order) (value : ℕ) → value ≡ most → part ≡ other
    → part.height ≡ 0 → value ≡ max most (Longest now orders dir others depth other)
none_at now orders dir others depth most part other value is same empty =
    let none : Longest now orders dir others depth other ≡ 0 =
    ap (λ xs. most_names_in now (walks_at orders depth (entries_beside dir others now xs)))
    (no_nodes orders.links.items other (sym (ap (λ (o : Order). o.height) same) ∙ empty)) in
    is ∙ nothing most ∙ ap (max most) (sym none)

some_at : (now : Blocks) (orders : Orders) (dir q : Path) (some others : List Path) (most : ℕ) (part other : Order) (result : ℕ)
    → result ≡ max most (Longest now orders q some (length q + 1) part) → part ≡ other → q ≡ dir
    → All (λ b. is_entry_beside dir some now b ≡ is_entry_beside dir others now b) (nodes orders.links.items other)
    → result ≡ max most (Longest now orders dir others (length dir + 1) other)
some_at now orders dir q some others most part other result described same is all =
    described ∙ ap (λ (o : Order). max most (Longest now orders q some (length q + 1) o)) same
    ∙ ap (max most) (longest_part now dir q some others (nodes orders.links.items other) is all orders)

-- the same of a node
one_at : (now : Blocks) (orders : Orders) (dir q : Path) (some others : List Path) (before root result : ℕ)
    → result ≡ max before (most_names_in now (walks_at orders (length q + 1) (entries_beside q some now (root ∷ [])))) → q ≡ dir
    → is_entry_beside dir some now root ≡ is_entry_beside dir others now root
    → result ≡ max before (most_names_in now (walks_at orders (length dir + 1) (entries_beside dir others now (root ∷ []))))
one_at now orders dir q some others before root result described is same =
    described ∙ ap (max before) (longest_part now dir q some others (root ∷ []) is
    (All-cons (λ b. is_entry_beside dir some now b ≡ is_entry_beside dir others now b)
    root [] same (All-nil (λ b. is_entry_beside dir some now b ≡ is_entry_beside dir others now b))) orders)

pub returns-then-before-eq-MOST_NAMES-clause-value : goal.returns-then-before-eq-MOST_NAMES-clause-value
returns-then-before-eq-MOST_NAMES-clause-value t c =
    let now = nodes_in c.args.arena.now in let orders = c.args.orders.now in let dir = c.args.others.now.directory.now in
    let others = c.args.others.now.paths.now in let links = orders.links.items in let depth = length dir + 1 in
    let p = read_around c.args.arena.now c.requires.tree orders c.requires.ordered c.free-free.ensures.capacity.1 c.args.order
    (length c.args.others.now.directory.now + 1)
    c.requires.order (filled c.is_empty.result c.args.order.height c.if-is_empty.false c.is_empty.ensures.1) c.requires.deep
    c.from.result c.from.ensures c.index.result.now c.index.ensures in
    let parts = c.around-parts.result in
    let same_left = same_before now dir parts.before.paths.now others (nodes links (left_of c.index.result.now)) c.args.order.root
    (nodes links (right_of c.index.result.now)) (nodes links c.args.order) p.listed c.requires.rising c.around-parts.ensures.before in
    let before : c.if-is_empty-3.before ≡ max c.args.most (Longest now orders dir others depth (left_of c.index.result.now)) =
    elim c.if-is_empty-3.branch [
      | then-is_empty-3 w ↦ none_at now orders dir others depth c.args.most c.left-left.result _ c.if-is_empty-3.before w.before-is c.left-left.ensures
          (c.is_empty-3.ensures.0 w.if-is_empty-3.true)
      | else-is_empty-3 w ↦ w.before-is ∙ some_at now orders dir parts.before.directory.now parts.before.paths.now others c.args.most c.left-left.result
          (left_of c.index.result.now) w.deepest_beside-before.result w.deepest_beside-before.ensures.value c.left-left.ensures
          c.around-parts.ensures.directory same_left
    ] in
    let whole = longest_apart now orders dir others depth (nodes links (left_of c.index.result.now)) c.args.order.root
    (nodes links (right_of c.index.result.now)) (nodes links c.args.order) p.listed in
    full _ _ _ _ _ before c.if-before-eq-MOST_NAMES.true whole (longest_few now orders dir others depth (nodes links c.args.order))

pub returns-then-is_empty-4-clause-value : goal.returns-then-is_empty-4-clause-value
returns-then-is_empty-4-clause-value t c =
    let now = nodes_in c.args.arena.now in let orders = c.args.orders.now in let dir = c.args.others.now.directory.now in
    let others = c.args.others.now.paths.now in let links = orders.links.items in let depth = length dir + 1 in
    let p = read_around c.args.arena.now c.requires.tree orders c.requires.ordered c.free-free.ensures.capacity.1 c.args.order
    (length c.args.others.now.directory.now + 1)
    c.requires.order (filled c.is_empty.result c.args.order.height c.if-is_empty.false c.is_empty.ensures.1) c.requires.deep
    c.from.result c.from.ensures c.index.result.now c.index.ensures in
    let parts = c.around-parts.result in
    let same_left = same_before now dir parts.before.paths.now others (nodes links (left_of c.index.result.now)) c.args.order.root
    (nodes links (right_of c.index.result.now)) (nodes links c.args.order) p.listed c.requires.rising c.around-parts.ensures.before in
    let before : c.if-is_empty-3.before ≡ max c.args.most (Longest now orders dir others depth (left_of c.index.result.now)) =
    elim c.if-is_empty-3.branch [
      | then-is_empty-3 w ↦ none_at now orders dir others depth c.args.most c.left-left.result _ c.if-is_empty-3.before w.before-is c.left-left.ensures
          (c.is_empty-3.ensures.0 w.if-is_empty-3.true)
      | else-is_empty-3 w ↦ w.before-is ∙ some_at now orders dir parts.before.directory.now parts.before.paths.now others c.args.most c.left-left.result
          (left_of c.index.result.now) w.deepest_beside-before.result w.deepest_beside-before.ensures.value c.left-left.ensures
          c.around-parts.ensures.directory same_left
    ] in
    let whole = longest_apart now orders dir others depth (nodes links (left_of c.index.result.now)) c.args.order.root
    (nodes links (right_of c.index.result.now)) (nodes links c.args.order) p.listed in
    let one = one_at now orders dir parts.at.directory.now parts.at.paths.now others c.if-is_empty-3.before c.args.order.root c.deepest_at-sofar.result
    c.deepest_at-sofar.ensures.value c.around-parts.ensures.same_directory c.around-parts.ensures.at in
    joined _ _ _ _ _ _ _ _ before one (none_at now orders dir others depth c.deepest_at-sofar.result c.right-right.result _
    c.deepest_at-sofar.result refl c.right-right.ensures (c.is_empty-4.ensures.0 c.if-is_empty-4.true)) whole

pub returns-clause-value : goal.returns-clause-value
returns-clause-value t c =
    let now = nodes_in c.args.arena.now in let orders = c.args.orders.now in let dir = c.args.others.now.directory.now in
    let others = c.args.others.now.paths.now in let links = orders.links.items in let depth = length dir + 1 in
    let p = read_around c.args.arena.now c.requires.tree orders c.requires.ordered c.free-free.ensures.capacity.1 c.args.order
    (length c.args.others.now.directory.now + 1)
    c.requires.order (filled c.is_empty.result c.args.order.height c.if-is_empty.false c.is_empty.ensures.1) c.requires.deep
    c.from.result c.from.ensures c.index.result.now c.index.ensures in
    let parts = c.around-parts.result in
    let same_left = same_before now dir parts.before.paths.now others (nodes links (left_of c.index.result.now)) c.args.order.root
    (nodes links (right_of c.index.result.now)) (nodes links c.args.order) p.listed c.requires.rising c.around-parts.ensures.before in
    let before : c.if-is_empty-3.before ≡ max c.args.most (Longest now orders dir others depth (left_of c.index.result.now)) =
    elim c.if-is_empty-3.branch [
      | then-is_empty-3 w ↦ none_at now orders dir others depth c.args.most c.left-left.result _ c.if-is_empty-3.before w.before-is c.left-left.ensures
          (c.is_empty-3.ensures.0 w.if-is_empty-3.true)
      | else-is_empty-3 w ↦ w.before-is ∙ some_at now orders dir parts.before.directory.now parts.before.paths.now others c.args.most c.left-left.result
          (left_of c.index.result.now) w.deepest_beside-before.result w.deepest_beside-before.ensures.value c.left-left.ensures
          c.around-parts.ensures.directory same_left
    ] in
    let whole = longest_apart now orders dir others depth (nodes links (left_of c.index.result.now)) c.args.order.root
    (nodes links (right_of c.index.result.now)) (nodes links c.args.order) p.listed in
    let one = one_at now orders dir parts.at.directory.now parts.at.paths.now others c.if-is_empty-3.before c.args.order.root c.deepest_at-sofar.result
    c.deepest_at-sofar.ensures.value c.around-parts.ensures.same_directory c.around-parts.ensures.at in
    let same_right = same_after now dir parts.after.paths.now others (nodes links (left_of c.index.result.now)) c.args.order.root
    (nodes links (right_of c.index.result.now)) (nodes links c.args.order) p.listed c.requires.rising c.around-parts.ensures.after in
    joined _ _ _ _ _ _ _ _ before one (some_at now orders dir parts.after.directory.now parts.after.paths.now others c.deepest_at-sofar.result
    c.right-right.result (right_of c.index.result.now) c.deepest_beside.result c.deepest_beside.ensures.value c.right-right.ensures
    c.around-parts.ensures.one_directory same_right) whole
