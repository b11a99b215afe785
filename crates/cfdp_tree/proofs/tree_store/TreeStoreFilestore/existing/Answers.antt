use Rattle.std.proofs.Common.{◌≡◌, ℕ, [], ◌∷◌, length, map, Vec, Option, Some, None, refl, sym, ap, ◌∙◌, subst, arith}
use Rattle.std.proofs.lemmas.List.Sorted.{IsPermutation-refl}
use Rattle.std.proofs.lemmas.Simd.{map-map}
use Rattle.std.specs.Prelude.{IfNone}
use Rattle.std.specs.declared.alloc.Global.{Global}
use Rattle.cfdp_paths.specs.Paths.{Path}
use Rattle.cfdp_actions.specs.declared.kind.ExistingNode.{ExistingNode}
use Rattle.cfdp_actions.specs.Store.{existing_node, existing_nodes_at}
use Rattle.cfdp_order.specs.declared.links.Order.{Order}
use Rattle.cfdp_order.proofs.TreeLaws.{no_nodes}
use Rattle.cfdp_tree.specs.code.Nodes.{nodes_in}
use Rattle.cfdp_tree.specs.code.Tree.{IsNode}
use Rattle.cfdp_tree.specs.code.Orders.{order_at, in_order}
use Rattle.cfdp_tree.specs.code.Walk.{walk_from}
use Rattle.cfdp_tree.specs.code.NodesBelow.{AreNodesBelow, shown_node, IsSoundNode}
use Rattle.cfdp_tree.proofs.OfNodes.AloneLaws.{alone_tree}
use Rattle.cfdp_tree.proofs.OfStore.SeenLaws.{shows}
use Rattle.cfdp_tree.proofs.OfWalks.NodesBelowLaws.{nodes_from, nodes_rising, some_node}
use Rattle.cfdp_tree.proofs.OfWalks.InOrderLaws.{found_tree, tree_of_nodes}
use Rattle.cfdp_tree.proofs.OfStore.SoundLaws.{items_are, under_nodes, node_sound, found_sound, none_under}
use Rattle.cfdp_tree.proofs.tree_store.TreeStoreFilestore.existing.Goals as goal

pub existing_nodes-requires : goal.existing_nodes-requires
existing_nodes-requires c =
    let nodes = nodes_in c.self.inside.arena in let orders = c.self.inside.orders in let b = c.in-Some.node in let depth = c.depth.result in let list =
    walk_from orders depth (Some b) in
    let nodes_below = nodes_from nodes c.self.invariant.store.kept.tree orders c.self.invariant.ordered (Some b) depth
    (some_node (IsNode nodes) b c.in-Some.ensures.node) (ap length c.in-Some.ensures.path ∙ sym c.depth.ensures.depth) in
    record {
      sound = found_sound _ _ _ c.self.invariant.store _ c.self.view_is list c.in_ok-found.found.items
          (under_nodes nodes _ list nodes_below) c.in_ok-found.ensures;
    }

pub returns : goal.returns
returns c =
    let arena = c.self.inside.arena in let nodes = nodes_in arena in let orders = c.self.inside.orders in let b = c.in-Some.node in let path =
    c.args.path.now in let depth = c.depth.result in
    let tree = c.self.invariant.store.kept.tree in let ordered = c.self.invariant.ordered in let list = walk_from orders depth (Some b) in let found =
    c.in_ok-found.found.items in let F = c.args.self.now.filestore in
    let node = some_node (IsNode nodes) b c.in-Some.ensures.node in
    let nodes_below = nodes_from nodes tree orders ordered (Some b) depth node (ap length c.in-Some.ensures.path ∙ sym c.depth.ensures.depth) in
    let described = tree_of_nodes nodes tree path list (subst (λ p. AreNodesBelow nodes p list) c.in-Some.ensures.path nodes_below)
    (nodes_rising nodes tree orders ordered (Some b) depth node) found c.in_ok-found.ensures
    arena F (shows _ _ _ c.self.invariant.store _ c.self.view_is) in
    items_are (λ (v : Vec ExistingNode Global). v.items) c.existing_nodes.result (map (λ e. existing_node (shown_node arena nodes e)) found)
    (existing_nodes_at F path) c.existing_nodes.ensures
    (sym (map-map existing_node (shown_node arena nodes) found) ∙ ap (map existing_node) described)

not_some : (r : Option ℕ) (P : Type 0) → ((x : ℕ) → r ≡ Some x → ⊥) → IfNone r P → P
not_some None P absent p = p
not_some (Some x) P absent p = absurd (absent x refl)

pub returns-in_default : goal.returns-in_default
returns-in_default c =
    let arena = c.self.inside.arena in let nodes = nodes_in arena in let path = c.args.path.now in let kept = c.self.invariant.store.kept in
    let none = not_some c.find_path.result _ c.in_default.not-Some c.find_path.ensures.none in
    let tree = found_tree nodes kept.tree path [] (none_under nodes kept.tree path c.find_path.ensures.some none) [] (IsPermutation-refl [])
    (λ k d low within. absurd (omega (arith, within)))
    arena c.args.self.now.filestore (shows _ _ _ c.self.invariant.store _ c.self.view_is) in
    c.new.ensures.items ∙ ap (map existing_node) tree

pub only_existing-requires : goal.only_existing-requires
only_existing-requires c =
    let arena = c.self.inside.arena in let b = c.in-Some.node in
    subst (λ (p : Path). IsSoundNode arena (p, b)) c.in-Some.ensures.path (node_sound _ _ _ c.self.invariant.store _ c.self.view_is b c.in-Some.ensures.node)

pub returns-then-is_empty : goal.returns-then-is_empty
returns-then-is_empty c =
    let arena = c.self.inside.arena in let nodes = nodes_in arena in let orders = c.self.inside.orders in let b = c.in-Some.node in let path =
    c.args.path.now in let F = c.args.self.now.filestore in
    let none : in_order orders (Some b) ≡ [] = no_nodes orders.links.items (order_at orders (Some b)) (sym (ap (λ (o : Order). o.height) c.of.ensures)
    ∙ c.is_empty.ensures.0 c.if-is_empty.true) in
    let tree = alone_tree nodes c.self.invariant.store.kept.tree orders c.self.invariant.ordered b path c.in-Some.ensures.node c.in-Some.ensures.path none arena
    F (shows _ _ _ c.self.invariant.store _ c.self.view_is) in
    items_are (λ (v : Vec ExistingNode Global). v.items) c.only_existing.result (existing_node (shown_node arena nodes (path, b)) ∷ [])
    (existing_nodes_at F path) c.only_existing.ensures
    (ap (map existing_node) tree)
