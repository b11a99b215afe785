use Rattle.std.proofs.Common.{◌≡◌, ◌+◌, ◌-◌, ◌++◌, ◌∷◌, [], ℕ, List, None, Vec, sym, ap, ◌∙◌, subst, arith}
use Rattle.std.specs.Prelude.{All}
use Rattle.std.specs.Global.{Global}
use Rattle.cfdp_arena.specs.declared.block_id.BlockId.{BlockId}
use Rattle.cfdp_order.specs.declared.links.Order.{Order}
use Rattle.cfdp_order.specs.Orders.{nodes}
use Rattle.cfdp_tree.specs.code.Nodes.{nodes_in}
use Rattle.cfdp_tree.specs.code.Tree.{IsNode}
use Rattle.cfdp_tree.specs.code.Orders.{in_order}
use Rattle.cfdp_tree.specs.code.Walk.{walks, walk_from, AreAtDepth}
use Rattle.cfdp_tree.proofs.OfOrders.OrderLaws.{directory_inside}
use Rattle.cfdp_tree.proofs.OfWalks.WalkLaws.{directory_few, directory_deep, some_begun, none_begun, one_deeper}
use Rattle.cfdp_tree.proofs.OfWalks.NodesBelowLaws.{nodes_from}
use Rattle.cfdp_tree.proofs.OfStore.SoundLaws.{under_nodes}
use Rattle.cfdp_tree.proofs.nodes_below.nodes_below.Goals as goal
use Rattle.cfdp_tree.proofs.nodes_below.nodes_below.Goals.{in-Some+in_ok-push, in_default}

pub of-requires : goal.of-requires
of-requires c = record {
  within = directory_inside (nodes_in c.args.arena.now) c.args.orders.now None c.args.top.now c.requires.ordered
      c.requires.top;
}

pub overflow_add-depth : goal.overflow_add-depth
overflow_add-depth c = omega (arith, directory_few (nodes_in c.args.arena.now) c.args.top.now, c.requires.depth)

pub collect_nodes-requires-clause-deep : goal.collect_nodes-requires-clause-deep
collect_nodes-requires-clause-deep c =
    let nodes_now = nodes_in c.args.arena.now in
    subst (λ (o : Order). AreAtDepth nodes_now (c.args.depth + 1) (nodes c.args.orders.now.links.items o)) (sym c.of.ensures)
    (directory_deep nodes_now c.requires.tree c.args.orders.now c.requires.ordered c.args.top.now c.args.depth c.requires.depth)

pub with_paths-requires-clause-nodes : goal.with_paths-requires-clause-nodes
with_paths-requires-clause-nodes c =
    let nodes_now = nodes_in c.args.arena.now in let orders = c.args.orders.now in let top = c.args.top.now in let depth = c.args.depth in
    let found : c.collect_nodes.new.found.items ≡ c.match-top.nodes.items ++ walks orders (8 - depth) (in_order orders top) =
    c.in_ok-collect_nodes.ensures ∙ ap (λ xs. c.match-top.nodes.items ++ xs) (one_deeper orders depth (nodes orders.links.items c.of.result)
    ∙ ap (λ (o : Order). walks orders (8 - depth) (nodes orders.links.items o)) c.of.ensures) in
    let all : c.match-top.nodes.items ++ walks orders (8 - depth) (in_order orders top) ≡ walk_from orders depth top =
    elim c.match-top.branch [
      | in-Some+in_ok-push w ↦ some_begun orders depth top c.match-top.nodes.items w.in-Some.node w.in-Some.is
          (ap (λ (v : Vec BlockId Global). v.items) w.nodes-is ∙ w.in_ok-push.ensures.items
          ∙ ap (λ (xs : List ℕ). xs ++ w.in-Some.node ∷ []) c.new-nodes.ensures.items)
      | in_default w ↦ none_begun orders depth top c.match-top.nodes.items w.in_default.is (ap (λ (v : Vec BlockId Global). v.items) w.nodes-is
          ∙ c.new-nodes.ensures.items)
    ] in
    subst (All (IsNode nodes_now)) (sym (c.deref.ensures.value ∙ found ∙ all))
    (under_nodes nodes_now _ (walk_from orders depth top)
    (nodes_from nodes_now c.requires.tree orders c.requires.ordered top depth c.requires.top
    c.requires.depth))
