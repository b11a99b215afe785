use Rattle.std.proofs.Common.{◌≡◌, ◌+◌, ◌-◌, ℕ, max, length, Option, Some, None, IfNone, refl, sym, ap, ◌∙◌, subst}
use Rattle.std.specs.Prelude.{IfSome, IsSome}
use Rattle.cfdp_order.specs.declared.links.Order.{Order}
use Rattle.cfdp_order.specs.Orders as trees
use Rattle.cfdp_order.specs.Orders.{IsOrder}
use Rattle.cfdp_tree.specs.code.Nodes.{nodes_in}
use Rattle.cfdp_tree.specs.code.Tree.{IsNode, path_of_node}
use Rattle.cfdp_tree.specs.code.Orders.{in_order}
use Rattle.cfdp_tree.specs.code.Walk.{walks, walk_from, most_names_in, AreAtDepth}
use Rattle.cfdp_tree.specs.code.NodesBelow.{AreNodesBelow}
use Rattle.cfdp_tree.proofs.OfStore.SeenLaws.{shows, seen_none}
use Rattle.cfdp_arena.proofs.Chains.{no_live}
use Rattle.cfdp_tree.proofs.OfWalks.WalkLaws.{directory_deep, one_deeper}
use Rattle.cfdp_tree.proofs.OfWalks.DeepestLaws.{deepest_is}
use Rattle.cfdp_tree.proofs.OfWalks.NodesBelowLaws.{nodes_from, some_node}
use Rattle.cfdp_tree.proofs.tree_store.TreeStoreFilestore.deepest.Goals as goal

there : (found : Option ℕ) (P : Type 0) (A : Type 0) (o : Option A) → IfNone found P → (P → o ≡ None) → IsSome o → IsSome found
there None P A o none absent some = absurd (no_live o (absent none) some)
there (Some b) P A o none absent some = refl

pub unwrap-node-requires : goal.unwrap-node-requires
unwrap-node-requires c =
    there c.find_path.result _ _ _ c.find_path.ensures.none (seen_none _ _ _ c.self.invariant.store _ c.self.view_is c.args.path.now) c.requires

pub deepest_in-below-requires-clause-order : goal.deepest_in-below-requires-clause-order
deepest_in-below-requires-clause-order c =
    let orders = c.self.inside.orders in
    subst (λ (o : Order). IsOrder orders.links.items o) (sym c.of-entries.ensures) (c.self.invariant.ordered.order (Some c.unwrap-node.result))

pub deepest_in-below-requires-clause-deep : goal.deepest_in-below-requires-clause-deep
deepest_in-below-requires-clause-deep c =
    let nodes = nodes_in c.self.inside.arena in let orders = c.self.inside.orders in let b = c.unwrap-node.result in let path = c.args.path.now in
    let way = subst (λ r. IfSome r (λ b. path_of_node nodes b ≡ path)) c.unwrap-node.ensures c.find_path.ensures.path in
    subst (λ (o : Order). AreAtDepth nodes (c.depth-depth.result + 1) (trees.nodes orders.links.items o)) (sym c.of-entries.ensures)
    (directory_deep nodes c.self.invariant.store.kept.tree orders c.self.invariant.ordered (Some b) c.depth-depth.result (ap length way
    ∙ sym c.depth-depth.ensures.depth))

pub returns-clause-value : goal.returns-clause-value
returns-clause-value c =
    let arena = c.self.inside.arena in let nodes = nodes_in arena in let orders = c.self.inside.orders in let b = c.unwrap-node.result in let path =
    c.args.path.now in let depth = c.depth-depth.result in
    let tree = c.self.invariant.store.kept.tree in
    let node = subst (λ r. IfSome r (λ b. IsNode nodes b)) c.unwrap-node.ensures c.find_path.ensures.node in
    let way = subst (λ r. IfSome r (λ b. path_of_node nodes b ≡ path)) c.unwrap-node.ensures c.find_path.ensures.path in
    let long : length (path_of_node nodes b) ≡ depth = ap length way ∙ sym c.depth-depth.ensures.depth in
    let nodes_below = nodes_from nodes tree orders c.self.invariant.ordered (Some b) depth (some_node (IsNode nodes) b node) long in
    let below : c.deepest_in-below.result ≡ most_names_in nodes (walks orders (8 - depth) (in_order orders (Some b))) =
    c.deepest_in-below.ensures.value
    ∙ ap (most_names_in nodes) (one_deeper orders depth (trees.nodes orders.links.items c.of-entries.result)
    ∙ ap (λ (o : Order). walks orders (8 - depth) (trees.nodes orders.links.items o)) c.of-entries.ensures) in
    c.max.ensures ∙ (λ k. max (sym long k) (below k))
    ∙ deepest_is nodes arena c.args.self.now.filestore (shows _ _ _ c.self.invariant.store _ c.self.view_is) path (walk_from orders depth (Some b))
    (subst (λ p. AreNodesBelow nodes p (walk_from orders depth (Some b))) way nodes_below)
