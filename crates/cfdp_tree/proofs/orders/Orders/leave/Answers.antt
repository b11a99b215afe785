use Rattle.std.proofs.Common.{◌∷◌, ◌++◌, sym, ap, ◌∙◌}
use Rattle.std.proofs.lemmas.List.{with_items_is}
use Rattle.cfdp_order.specs.Orders as trees
use Rattle.cfdp_tree.specs.code.Nodes.{nodes_in}
use Rattle.cfdp_tree.proofs.OfOrders.OrderLaws.{left, same_others, directory_inside, home_node}
use Rattle.cfdp_tree.proofs.orders.Orders.leave.Goals as goal

pub of-order-requires : goal.of-order-requires
of-order-requires c =
    let nodes = nodes_in c.args.arena.now in
    record {
      within = directory_inside nodes c.args.self.now _ c.args.directory c.requires.ordered
          (home_node nodes c.requires.tree c.args.directory c.args.name.now c.args.node c.requires.entry);
    }

pub set-requires : goal.set-requires
set-requires c =
    let nodes = nodes_in c.args.arena.now in
    record {
      within = directory_inside nodes c.args.self.now _ c.args.directory c.requires.ordered
          (home_node nodes c.requires.tree c.args.directory c.args.name.now c.args.node c.requires.entry);
    }

pub returns : goal.returns
returns c =
    let r = c.remove-order.ensures in let value = c.deref_mut.ensures.value in let of = c.of-order.ensures in let same = c.number.ensures.same_number in
    left (nodes_in c.args.arena.now) c.requires.tree c.args.self.now c.args.directory c.args.name.now c.args.node c.requires.entry c.requires.ordered
    c.remove-order.new.links c.remove-order.result r.order
    (λ before after e splits. r.removed before after ((λ k. trees.nodes (value k) (of k)) ∙ e ∙ ap (λ x. before ++ x ∷ after) (sym same)) splits)
    (same_others _ _ _ _ _ value of r.others)
    c.set.new.self (c.set.ensures.links ∙ with_items_is c.args.self.now.links c.remove-order.new.links (c.remove-order.auto.links ∙ c.deref_mut.ensures.len))
    c.set.ensures.here
    c.set.ensures.others c.set.ensures.length
