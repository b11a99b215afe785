use Rattle.std.proofs.Common.{◌+◌, length, Some, sym, ap, ◌∙◌, subst}
use Rattle.std.specs.List.{list_any}
use Rattle.std.specs.Prelude.{AllPairs}
use Rattle.cfdp_order.specs.declared.links.Order.{Order}
use Rattle.cfdp_order.specs.Orders as trees
use Rattle.cfdp_order.specs.Orders.{IsOrder}
use Rattle.cfdp_tree.specs.code.Beside.{is_entry_beside}
use Rattle.cfdp_tree.specs.code.Nodes.{nodes_in}
use Rattle.cfdp_tree.specs.code.Orders.{Rises}
use Rattle.cfdp_tree.specs.code.Walk.{AreAtDepth}
use Rattle.cfdp_tree.proofs.OfStore.SeenLaws.{shows}
use Rattle.cfdp_tree.proofs.OfWalks.WalkLaws.{directory_deep}
use Rattle.cfdp_tree.proofs.OfWalks.BesideLaws.{any_is, absent_any}
use Rattle.cfdp_tree.proofs.tree_store.TreeStoreFilestore.has_beside.Goals as goal

pub any_beside-requires-clause-order : goal.any_beside-requires-clause-order
any_beside-requires-clause-order c =
    let orders = c.self.inside.orders in
    subst (λ (o : Order). IsOrder orders.links.items o) (sym c.of-entries.ensures) (c.self.invariant.ordered.order (Some c.in-Some.node))

pub any_beside-requires-clause-rising : goal.any_beside-requires-clause-rising
any_beside-requires-clause-rising c =
    let nodes = nodes_in c.self.inside.arena in let orders = c.self.inside.orders in
    subst (λ (o : Order). AllPairs (Rises nodes) (trees.nodes orders.links.items o)) (sym c.of-entries.ensures)
    (c.self.invariant.ordered.rising (Some c.in-Some.node))

pub any_beside-requires-clause-deep : goal.any_beside-requires-clause-deep
any_beside-requires-clause-deep c =
    let nodes = nodes_in c.self.inside.arena in let orders = c.self.inside.orders in let path = c.args.path.now in
    subst (λ p. AreAtDepth nodes (length p + 1) (trees.nodes orders.links.items c.of-entries.result)) (sym c.new-left_out.ensures.directory)
    (subst (λ (o : Order). AreAtDepth nodes (length path + 1) (trees.nodes orders.links.items o)) (sym c.of-entries.ensures)
    (directory_deep nodes c.self.invariant.store.kept.tree orders c.self.invariant.ordered (Some c.in-Some.node) (length path)
    (ap length c.in-Some.ensures.path)))

pub returns-in-Some : goal.returns-in-Some
returns-in-Some c =
    let arena = c.self.inside.arena in let nodes = nodes_in arena in let b = c.in-Some.node in let orders = c.self.inside.orders in let tree =
    c.self.invariant.store.kept.tree in let path = c.args.path.now in let others = c.args.others.now in
    let seen = shows _ _ _ c.self.invariant.store _ c.self.view_is in let found = c.in-Some.ensures in
    c.any_beside.ensures
    ∙ (λ k. list_any (is_entry_beside (c.new-left_out.ensures.directory k) (c.new-left_out.ensures.paths k) nodes)
    (trees.nodes orders.links.items c.of-entries.result))
    ∙ ap (λ (o : Order). list_any (is_entry_beside path others nodes) (trees.nodes orders.links.items o)) c.of-entries.ensures
    ∙ any_is nodes tree arena c.args.self.now.filestore seen path others b found.node found.path orders c.self.invariant.ordered

pub returns-in-None : goal.returns-in-None
returns-in-None c =
    let arena = c.self.inside.arena in let seen = shows _ _ _ c.self.invariant.store _ c.self.view_is in
    sym (absent_any (nodes_in arena) c.self.invariant.store.kept.tree arena c.args.self.now.filestore seen c.args.path.now c.args.others.now
    c.in-None.ensures.some c.in-None.ensures.none)
