use Rattle.std.proofs.Common.{length, sym, ap, ◌∙◌, subst}
use Rattle.cfdp_order.specs.Orders.{IsOrder}
use Rattle.cfdp_order.proofs.HeightLaws.{known_of}
use Rattle.cfdp_order.proofs.tests.remove_most.Goals as goal

pub remove-made-requires-clause-known : goal.remove-made-requires-clause-known
remove-made-requires-clause-known c =
    let l = c.loop-node in let value = c.deref_mut.ensures.value in
    known_of c.deref_mut.result.now l.made.order (subst (λ k. IsOrder k l.made.order) (sym value) l.invariant.order) c.sought_key-sought.result.keys.now
    (ap length value ∙ l.invariant.long ∙ ap length (sym c.sought_key-sought.ensures.keys))
