use Rattle.std.proofs.Common.{length, sym, ap, ◌∙◌, subst}
use Rattle.cfdp_order.specs.Orders.{IsOrder}
use Rattle.cfdp_order.proofs.HeightLaws.{known_of}
use Rattle.cfdp_order.proofs.tests.found_at.Goals as goal

pub first_from-from-requires-clause-known : goal.first_from-from-requires-clause-known
first_from-from-requires-clause-known c =
    let order = c.args.made.now.order in let value = c.deref.ensures.value in
    known_of c.deref.result.now order (subst (λ k. IsOrder k order) (sym value) c.requires.order) c.sought_key-sought.result.keys.now
    (ap length value ∙ c.requires.long ∙ ap length (sym c.sought_key-sought.ensures.keys))

pub first_after-after-requires-clause-known : goal.first_after-after-requires-clause-known
first_after-after-requires-clause-known c =
    let order = c.args.made.now.order in let value = c.deref-2.ensures.value in
    known_of c.deref-2.result.now order (subst (λ k. IsOrder k order) (sym value) c.requires.order) c.sought_key-sought.result.keys.now
    (ap length value ∙ c.requires.long ∙ ap length (sym c.sought_key-sought.ensures.keys))
