use Rattle.std.proofs.Common.{◌+◌, max, length, Some, sym, ap, ◌∙◌, subst}
use Rattle.std.proofs.Math.Nat.{zero-max}
use Rattle.std.specs.Prelude.{AllPairs}
use Rattle.cfdp_order.specs.declared.links.Order.{Order}
use Rattle.cfdp_order.specs.Orders as trees
use Rattle.cfdp_order.specs.Orders.{IsOrder}
use Rattle.cfdp_tree.specs.code.Beside.{entries_beside}
use Rattle.cfdp_tree.specs.code.Nodes.{nodes_in}
use Rattle.cfdp_tree.specs.code.Orders.{in_order, Rises}
use Rattle.cfdp_tree.specs.code.Walk.{walks_at, most_names_in, AreAtDepth}
use Rattle.cfdp_tree.proofs.OfStore.SeenLaws.{shows}
use Rattle.cfdp_tree.proofs.OfWalks.WalkLaws.{directory_deep}
use Rattle.cfdp_tree.proofs.OfWalks.BesideLaws.{longest_is, absent_longest}
use Rattle.cfdp_tree.proofs.tree_store.TreeStoreFilestore.deepest_beside.Goals as goal

pub deepest_beside-requires-clause-order : goal.deepest_beside-requires-clause-order
deepest_beside-requires-clause-order c =
    let orders = c.self.inside.orders in
    subst (λ (o : Order). IsOrder orders.links.items o) (sym c.of-entries.ensures) (c.self.invariant.ordered.order (Some c.in-Some.node))

pub deepest_beside-requires-clause-rising : goal.deepest_beside-requires-clause-rising
deepest_beside-requires-clause-rising c =
    let nodes = nodes_in c.self.inside.arena in let orders = c.self.inside.orders in
    subst (λ (o : Order). AllPairs (Rises nodes) (trees.nodes orders.links.items o)) (sym c.of-entries.ensures)
    (c.self.invariant.ordered.rising (Some c.in-Some.node))

pub deepest_beside-requires-clause-deep : goal.deepest_beside-requires-clause-deep
deepest_beside-requires-clause-deep c =
    let nodes = nodes_in c.self.inside.arena in let orders = c.self.inside.orders in let path = c.args.path.now in
    subst (λ p. AreAtDepth nodes (length p + 1) (trees.nodes orders.links.items c.of-entries.result)) (sym c.new-left_out.ensures.directory)
    (subst (λ (o : Order). AreAtDepth nodes (length path + 1) (trees.nodes orders.links.items o)) (sym c.of-entries.ensures)
    (directory_deep nodes c.self.invariant.store.kept.tree orders c.self.invariant.ordered (Some c.in-Some.node) (length path)
    (ap length c.in-Some.ensures.path)))

pub returns-in-Some-clause-value : goal.returns-in-Some-clause-value
returns-in-Some-clause-value c =
    let arena = c.self.inside.arena in let nodes = nodes_in arena in let b = c.in-Some.node in let orders = c.self.inside.orders in let tree =
    c.self.invariant.store.kept.tree in let path = c.args.path.now in let others = c.args.others.now in
    let seen = shows _ _ _ c.self.invariant.store _ c.self.view_is in let found = c.in-Some.ensures in
    c.deepest_beside.ensures.value
    ∙ (λ k. max 0 (most_names_in nodes (walks_at orders (length (c.new-left_out.ensures.directory k) + 1)
    (entries_beside (c.new-left_out.ensures.directory k) (c.new-left_out.ensures.paths k) nodes (trees.nodes orders.links.items c.of-entries.result)))))
    ∙ ap (λ (o : Order). max 0 (most_names_in nodes (walks_at orders (length path + 1) (entries_beside path others nodes (trees.nodes orders.links.items o)))))
    c.of-entries.ensures
    ∙ zero-max (most_names_in nodes (walks_at orders (length path + 1) (entries_beside path others nodes (in_order orders (Some b)))))
    ∙ longest_is nodes tree arena c.args.self.now.filestore seen path others b found.node found.path orders c.self.invariant.ordered

pub returns-in-None-clause-value : goal.returns-in-None-clause-value
returns-in-None-clause-value c =
    let arena = c.self.inside.arena in let seen = shows _ _ _ c.self.invariant.store _ c.self.view_is in
    sym (absent_longest (nodes_in arena) c.self.invariant.store.kept.tree arena c.args.self.now.filestore seen c.args.path.now c.args.others.now
    c.in-None.ensures.some c.in-None.ensures.none)
