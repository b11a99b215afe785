use Rattle.std.proofs.Common.{rules, length, sym, ap, ◌∙◌, subst}
use Rattle.cfdp_order.specs.declared.links.Order.{Order}
use Rattle.cfdp_order.specs.Orders.{times_in, IsOrder}
use Rattle.cfdp_order.proofs.TreeLaws.{none_is, no_nodes}
use Rattle.cfdp_order.proofs.HeightLaws.{known_of}
use Rattle.cfdp_order.proofs.tests.order_of.Goals as goal

pub loop-node-init : goal.loop-node-init
loop-node-init c =
    let links = c.resize.new.self.items in let none = ap (λ (o : Order). o.height) c.empty-order.ensures in
    record {
      order = none_is links c.empty-order.result none;
      long = search rules;
      fresh =
          (λ n more. ap (times_in n) (no_nodes links c.empty-order.result none));
    }

pub insert-order-requires-clause-known : goal.insert-order-requires-clause-known
insert-order-requires-clause-known c =
    let l = c.loop-node in let value = c.deref_mut.ensures.value in
    known_of c.deref_mut.result.now l.order (subst (λ k. IsOrder k l.order) (sym value) l.invariant.order) c.sought_key-sought.result.keys.now
    (ap length value ∙ l.invariant.long ∙ ap length (sym c.sought_key-sought.ensures.keys))
