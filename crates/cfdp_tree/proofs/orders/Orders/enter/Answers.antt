use Rattle.std.proofs.Common.{◌∷◌, ◌++◌, ap, ◌∙◌}
use Rattle.std.proofs.lemmas.List.{with_items_is}
use Rattle.cfdp_order.specs.Orders as trees
use Rattle.cfdp_order.specs.Orders.{times_in}
use Rattle.cfdp_tree.specs.code.Nodes.{nodes_in}
use Rattle.cfdp_tree.proofs.OfOrders.OrderLaws.{enters, entered, same_change, directory_inside, home_node}
use Rattle.cfdp_tree.proofs.orders.Orders.enter.Goals as goal

pub of-order-requires : goal.of-order-requires
of-order-requires c =
    let nodes = nodes_in c.args.arena.now in
    record {
      within = directory_inside nodes c.args.self.now _ c.args.directory c.requires.ordered
          (home_node nodes c.requires.tree c.args.directory c.args.name.now c.args.node c.requires.entry);
    }

pub insert-order-requires-clause-fresh : goal.insert-order-requires-clause-fresh
insert-order-requires-clause-fresh c =
    (λ k. times_in (c.number.ensures.same_number k) (trees.nodes (c.deref_mut.ensures.value k) (c.of-order.ensures k)))
    ∙ enters (nodes_in c.args.arena.now) c.requires.tree c.args.self.now c.args.directory c.args.name.now c.args.node c.requires.entry c.requires.ordered

pub set-requires : goal.set-requires
set-requires c =
    let nodes = nodes_in c.args.arena.now in
    record {
      within = directory_inside nodes c.args.self.now _ c.args.directory c.requires.ordered
          (home_node nodes c.requires.tree c.args.directory c.args.name.now c.args.node c.requires.entry);
    }

pub returns : goal.returns
returns c =
    let i = c.insert-order.ensures in let value = c.deref_mut.ensures.value in let of = c.of-order.ensures in let same = c.number.ensures.same_number in
    entered (nodes_in c.args.arena.now) c.requires.tree c.args.self.now c.args.directory c.args.name.now c.args.node c.requires.entry c.requires.ordered
    c.insert-order.new.links c.insert-order.result i.order
    (λ before after e splits. i.inserted before after ((λ k. trees.nodes (value k) (of k)) ∙ e) splits ∙ ap (λ x. before ++ x ∷ after) same)
    (λ m. i.one_more m ∙ (λ k. times_in m (same k ∷ trees.nodes (value k) (of k))))
    (same_change _ _ _ _ _ _ _ value of same i.others)
    c.set.new.self (c.set.ensures.links ∙ with_items_is c.args.self.now.links c.insert-order.new.links (c.insert-order.auto.links ∙ c.deref_mut.ensures.len))
    c.set.ensures.here
    c.set.ensures.others c.set.ensures.length
