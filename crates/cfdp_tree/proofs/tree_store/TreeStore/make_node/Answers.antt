use Rattle.std.proofs.Common.{◌+◌, sym, ap, ◌∙◌, subst, arith, Some, None}
use Rattle.std.proofs.lemmas.List.{with_items_is}
use Rattle.cfdp_tree.specs.code.Nodes.{only_node, nodes_in}
use Rattle.cfdp_tree.specs.code.Index.{IsIndex}
use Rattle.cfdp_tree.specs.code.Slots.{IsStore}
use Rattle.cfdp_tree.proofs.OfStore.AlikeLaws.{runs_then}
use Rattle.cfdp_tree.proofs.OfStore.MakeLaws.{tree_made, index_made, make_view, make_store}
use Rattle.std.proofs.Math.ListN.{get_or-map}
use Rattle.cfdp_arena.specs.Arena.{octets_of}
use Rattle.cfdp_tree.specs.code.Orders.{IsInOrders}
use Rattle.cfdp_tree.proofs.OfNodes.LinkLaws.{relinked_entries}
use Rattle.cfdp_tree.proofs.OfIndex.OutLaws.{nodes_long}
use Rattle.cfdp_tree.proofs.OfOrders.OrderedLaws.{kept_entries, ordered_kept, ordered_made}
use Rattle.cfdp_tree.proofs.tree_store.TreeStore.make_node.Goals as goal

pub enter-requires-clause-tree : goal.enter-requires-clause-tree
enter-requires-clause-tree c =
    let made = c.create_node-node.ensures in let found = c.lookup.ensures in
    tree_made _ _ _ c.self.invariant.store _ c.self.view_is c.args.path.now c.depth-depth.ensures.within _
    (omega (arith, c.depth-depth.ensures.depth, c.depth-depth.ensures.within.some)) c.requires.parent
    c.lookup.result found.node found.path found.none c.name-name.result.now c.name-name.ensures.name
    c.requires.absent c.create_node-node.new.arena c.create_node-node.result c.args.kind made.fresh made.within made.nodes made.fields made.home made.name
    made.whole

pub enter-requires-clause-ordered : goal.enter-requires-clause-ordered
enter-requires-clause-ordered c =
    let made = c.create_node-node.ensures in let arena = c.self.inside.arena in let b = c.create_node-node.result in
    subst (λ ns. IsInOrders ns c.self.inside.orders (Some b)) (sym made.nodes)
    (ordered_made (nodes_in arena) c.self.inside.orders b (octets_of (nodes_in c.create_node-node.new.arena) b) (get_or-map only_node arena b None
    ∙ ap only_node made.fresh) c.self.invariant.ordered)

pub insert-requires-clause-tree : goal.insert-requires-clause-tree
insert-requires-clause-tree c =
    let made = c.create_node-node.ensures in let found = c.lookup.ensures in
    tree_made _ _ _ c.self.invariant.store _ c.self.view_is c.args.path.now c.depth-depth.ensures.within _
    (omega (arith, c.depth-depth.ensures.depth, c.depth-depth.ensures.within.some)) c.requires.parent
    c.lookup.result found.node found.path found.none c.name-name.result.now c.name-name.ensures.name
    c.requires.absent c.create_node-node.new.arena c.create_node-node.result c.args.kind made.fresh made.within made.nodes made.fields made.home made.name
    made.whole

pub insert-requires-clause-index : goal.insert-requires-clause-index
insert-requires-clause-index c =
    let made = c.create_node-node.ensures in let found = c.lookup.ensures in
    subst (λ hs. IsIndex (nodes_in c.create_node-node.new.arena) hs (Some c.create_node-node.result)) (sym c.deref_mut.ensures.value)
    (index_made _ _ _ c.self.invariant.store _ c.self.view_is c.args.path.now c.depth-depth.ensures.within _
    (omega (arith, c.depth-depth.ensures.depth, c.depth-depth.ensures.within.some)) c.requires.parent
    c.lookup.result found.node found.path found.none c.name-name.result.now c.name-name.ensures.name
    c.requires.absent c.create_node-node.new.arena c.create_node-node.result c.args.kind made.fresh made.within made.nodes made.fields made.home made.name
    made.whole)

pub invariant_of-self : goal.invariant_of-self
invariant_of-self c =
    let made = c.create_node-node.ensures in let found = c.lookup.ensures in let linked = c.insert.ensures in
    let later = c.insert.new.arena in
    let heads = with_items_is c.self.inside.heads c.insert.new.heads (c.insert.auto.heads ∙ c.deref_mut.ensures.len) in
    record {
      store = subst (λ hs. IsStore later c.self.inside.ways.items hs c.self.inside.slots.items) (sym heads)
          (make_store _ _ _ c.self.invariant.store _ c.self.view_is c.args.path.now c.depth-depth.ensures.within _
          (omega (arith, c.depth-depth.ensures.depth, c.depth-depth.ensures.within.some)) c.requires.parent
          c.lookup.result found.node found.path found.none c.name-name.result.now c.name-name.ensures.name
          c.requires.absent c.create_node-node.new.arena c.create_node-node.result c.args.kind made.fresh made.within made.nodes made.fields made.home made.name
          made.whole
          later linked.links c.insert.new.heads linked.index (runs_then c.self.inside.arena c.create_node-node.new.arena later made.runs linked.runs)
          (linked.size ∙ made.capacity) (ap (λ n. n + 1) linked.free ∙ made.taken));
      ordered = ordered_kept (nodes_in c.create_node-node.new.arena) (nodes_in later) c.enter.new.self None
          (nodes_long c.create_node-node.new.arena later linked.size)
          (kept_entries (nodes_in c.create_node-node.new.arena) (nodes_in later) None
          (relinked_entries (nodes_in c.create_node-node.new.arena) (nodes_in later) linked.links)) c.enter.ensures;
    }

pub returns : goal.returns
returns c =
    let made = c.create_node-node.ensures in let found = c.lookup.ensures in let linked = c.insert.ensures in
    let later = c.insert.new.arena in
    make_view _ _ _ c.self.invariant.store _ c.self.view_is c.args.path.now c.depth-depth.ensures.within _
    (omega (arith, c.depth-depth.ensures.depth, c.depth-depth.ensures.within.some)) c.requires.parent
    c.lookup.result found.node found.path found.none c.name-name.result.now c.name-name.ensures.name
    c.requires.absent c.create_node-node.new.arena c.create_node-node.result c.args.kind made.fresh made.within made.nodes made.fields made.home made.name
    made.whole
    later linked.links c.insert.new.heads linked.index (runs_then c.self.inside.arena c.create_node-node.new.arena later made.runs linked.runs) (linked.size
    ∙ made.capacity) (ap (λ n. n + 1) linked.free ∙ made.taken)
