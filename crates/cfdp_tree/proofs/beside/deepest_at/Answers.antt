use Rattle.std.proofs.Common.{◌≡◌, ℕ, ◌+◌, ◌≤◌, max, length, Some, sym, ap, ◌∙◌, subst, arith}
use Rattle.cfdp_order.specs.Orders.{nodes}
use Rattle.cfdp_order.proofs.TreeLaws.{no_nodes}
use Rattle.cfdp_tree.specs.code.Nodes.{nodes_in}
use Rattle.cfdp_tree.specs.code.Orders.{in_order}
use Rattle.cfdp_tree.specs.code.Walk.{walks_at, most_names_in, AreAtDepth}
use Rattle.cfdp_tree.proofs.OfWalks.LeftOutLaws.{longest_kept, longest_left, longest_within}
use Rattle.cfdp_tree.proofs.OfWalks.WalkLaws.{read_below}
use Rattle.cfdp_tree.proofs.beside.deepest_at.Goals as goal

no_more : (before one : ℕ) → one ≤ before → before ≡ max before one
no_more before one within = grind (arith, within)

pub returns-then-depth-before-clause-value : goal.returns-then-depth-before-clause-value
returns-then-depth-before-clause-value c =
    let now = nodes_in c.args.arena.now in let orders = c.args.orders.now in let dir = c.args.others.now.directory.now in let depth = length dir + 1 in
    let below = read_below now c.requires.tree orders c.requires.ordered depth c.args.node c.requires.deep c.from.result c.from.ensures
    c.index.result.now c.index.ensures in
    let none : most_names_in now (walks_at orders (depth + 1) (in_order orders (Some c.args.node))) ≡ 0 =
    ap (λ xs. most_names_in now (walks_at orders (depth + 1) xs))
    (sym below.listed ∙ no_nodes orders.links.items c.index.result.now (c.is_empty.ensures.0 c.if-is_empty.true)) in
    no_more _ _ (longest_within now orders dir c.args.others.now.paths.now depth c.args.node c.requires.deep c.args.before
    (omega (arith, c.if-depth-before.true, c.depth-depth.ensures.depth)) (omega (arith, none)))

pub deepest_in-requires-clause-order : goal.deepest_in-requires-clause-order
deepest_in-requires-clause-order c =
    let below = read_below (nodes_in c.args.arena.now) c.requires.tree c.args.orders.now c.requires.ordered (length c.args.others.now.directory.now + 1)
    c.args.node c.requires.deep c.from.result c.from.ensures c.index.result.now c.index.ensures in
    below.is_below

pub deepest_in-requires-clause-deep : goal.deepest_in-requires-clause-deep
deepest_in-requires-clause-deep c =
    let below = read_below (nodes_in c.args.arena.now) c.requires.tree c.args.orders.now c.requires.ordered (length c.args.others.now.directory.now + 1)
    c.args.node c.requires.deep c.from.result c.from.ensures c.index.result.now c.index.ensures in
    subst (λ n. AreAtDepth (nodes_in c.args.arena.now) (n + 1 + 1) (nodes c.args.orders.now.links.items c.index.result.now))
    (sym c.depth-depth.ensures.depth) below.deep_below

-- the longest path at and below the entry
whole : (before depth here result one below : ℕ) → here ≡ max depth below → result ≡ max before here → one ≡ max depth below → result ≡ max before one
whole before depth here result one below is joined kept = joined ∙ ap (max before) (is ∙ sym kept)

pub returns-then-not-leaves-clause-value : goal.returns-then-not-leaves-clause-value
returns-then-not-leaves-clause-value c =
    let now = nodes_in c.args.arena.now in let orders = c.args.orders.now in let dir = c.args.others.now.directory.now in let depth = length dir + 1 in
    no_more _ _ (omega (
      arith,
      longest_left now orders dir c.args.others.now.paths.now depth c.args.node c.requires.deep (sym c.leaves.ensures ∙ c.if-not-leaves.true),
    ))

pub returns-clause-value : goal.returns-clause-value
returns-clause-value c =
    let now = nodes_in c.args.arena.now in let orders = c.args.orders.now in let dir = c.args.others.now.directory.now in let depth = length dir + 1 in
    let others = c.args.others.now.paths.now in
    let below = read_below now c.requires.tree orders c.requires.ordered depth c.args.node c.requires.deep c.from.result c.from.ensures
    c.index.result.now c.index.ensures in
    let here : c.max-here.result ≡ max depth (most_names_in now (walks_at orders (depth + 1) (in_order orders (Some c.args.node)))) =
    c.max-here.ensures ∙ (λ k. max (ap (λ n. n + 1) c.depth-depth.ensures.depth k) ((c.deepest_in.ensures.value
    ∙ ap (λ n. most_names_in now (walks_at orders (n + 1 + 1) (nodes orders.links.items c.index.result.now))) c.depth-depth.ensures.depth
    ∙ ap (λ xs. most_names_in now (walks_at orders (depth + 1) xs)) below.listed) k)) in
    whole _ _ _ _ _ _ here c.max.ensures
    (longest_kept now orders dir others depth c.args.node c.requires.deep (sym c.leaves.ensures ∙ c.if-not-leaves.false))

pub returns-clause-within : goal.returns-clause-within
returns-clause-within c =
    let below = read_below (nodes_in c.args.arena.now) c.requires.tree c.args.orders.now c.requires.ordered (length c.args.others.now.directory.now + 1)
    c.args.node c.requires.deep c.from.result c.from.ensures c.index.result.now c.index.ensures in
    grind (arith, c.max.ensures, c.requires.before, c.max-here.ensures, c.depth-depth.ensures.depth, below.few, c.deepest_in.ensures.within)
